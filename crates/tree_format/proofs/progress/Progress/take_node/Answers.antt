use Rattle.std.proofs.Common.{arith, ◌∙◌, ap, subst, suc, ◌∷◌, ◌-◌, ◌≡◌, refl}
use Rattle.tree_format.specs.Internal.Remaining.{ArePending}
use Rattle.tree_format.proofs.FieldLaws.{node_split}
use Rattle.tree_format.proofs.PendingLaws.{room_after, pending_after}
use Rattle.tree_format.proofs.progress.Progress.take_node.Goals as goal

pub push-requires : goal.push-requires
push-requires c = let room = room_after c.in-Some.levels c.pop.new.self _ c.in-Some.ensures.some c.requires.sound.pending in omega arith

pub push-requires-in-83 : goal.push-requires-in-83
push-requires-in-83 c =
    let room = room_after c.in-Some.levels c.pop.new.self _ c.in-Some.ensures.some c.requires.sound.pending in
    rw c.push.ensures (omega arith)

pub returns-in-76-clause-sound : goal.returns-in-76-clause-sound
returns-in-76-clause-sound c =
    let sound = c.requires.sound in
    let bare = sound.bare (rw c.requires.field refl) in
    let place = rw c.requires.field at sound.place in
    let nodes = sound.nodes in
    rw c.begin.ensures (record {
      read = sound.read;
      low = sound.low;
      bare = λ e. bare;
      field = tt;
      claim = tt;
      place = omega arith;
      nodes = omega arith;
      pending = pending_after c.in-Some.levels c.pop.new.self (subst ArePending c.in-Some.ensures.some sound.pending);
    })

pub returns-in-83-clause-left : goal.returns-in-83-clause-left
returns-in-83-clause-left c = λ bytes.
    let sound = c.requires.sound in
    let nodes = sound.nodes in
    let j = c.in-Some.levels - 1 in
    let bare = sound.bare (rw c.requires.field refl) in
    let zero_low : c.args.self.now.low ≡ 0 = (let low = rw bare at sound.low in omega arith) in
    let levels : c.in-Some.levels ≡ suc j = omega arith in
    let is = c.in-Some.ensures.some ∙ ap (λ k. k ∷ c.pop.new.self) levels in
    let split = node_split j c.args.self.now.nodes c.args.self.now.start c.pop.new.self bytes (omega arith) in
    rw (c.in-83.is, c.begin-in-83.ensures, c.push-in-83.ensures, c.push.ensures, c.requires.field, bare, zero_low, is) split
