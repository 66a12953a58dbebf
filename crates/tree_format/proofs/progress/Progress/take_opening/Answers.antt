use Rattle.std.proofs.Common.{sym, ℕ, List}
use Rattle.tree_format.specs.Readings.{Reading}
use Rattle.tree_format.specs.declared.tokens.Token.{Token}
use Rattle.tree_format.specs.Grammar.{claim_at}
use Rattle.tree_format.specs.Internal.Remaining.{trees_at}
use Rattle.tree_format.proofs.FieldLaws.{opening_wrong, opening_right, opening_last, claim_wrong, claim_right, claim_last}
use Rattle.tree_format.proofs.progress.Progress.take_opening.Goals as goal
use Rattle.tree_format.proofs.progress.Progress.take_opening.Goals.{then-read-eq4, else-read-eq4}

pub returns-then-byte-read-clause-left : goal.returns-then-byte-read-clause-left
returns-then-byte-read-clause-left c = λ bytes.
    let seen = rw c.requires.field at c.requires.sound.field in
    rw c.requires.field (sym (opening_wrong c.args.read _ c.args.byte bytes _ seen c.if-byte-read.true))

pub returns-clause-left : goal.returns-clause-left
returns-clause-left c = λ bytes.
    let s = c.args.self.now in
    let next : ℕ → List ℕ → Reading Token = λ p rest. claim_at p rest (trees_at s.pending s.nodes) in
    let seen = rw c.requires.field at c.requires.sound.field in
    elim c.if-read-eq4.branch [
      | then-read-eq4 w ↦ rw (w.self-is, c.requires.field)
          (sym (opening_last c.args.read s.start c.args.byte bytes next w.if-read-eq4.true c.if-byte-read.false))
      | else-read-eq4 w ↦ rw (w.self-is, c.requires.field)
          (sym (opening_right c.args.read s.start c.args.byte bytes next seen c.if-byte-read.false))
    ]

pub returns-then-byte-read-clause-claim : goal.returns-then-byte-read-clause-claim
returns-then-byte-read-clause-claim c = λ bytes.
    let seen = rw c.requires.field at c.requires.sound.field in
    let none = rw c.requires.field at c.requires.sound.claim in
    rw (c.requires.field, none) (sym (claim_wrong c.args.read c.args.byte bytes seen c.if-byte-read.true))

pub returns-clause-claim : goal.returns-clause-claim
returns-clause-claim c = λ bytes.
    let seen = rw c.requires.field at c.requires.sound.field in
    elim c.if-read-eq4.branch [
      | then-read-eq4 w ↦ rw (w.self-is, c.requires.field)
          (sym (claim_last c.args.read c.args.byte bytes w.if-read-eq4.true c.if-byte-read.false))
      | else-read-eq4 w ↦ rw (w.self-is, c.requires.field)
          (sym (claim_right c.args.read c.args.byte bytes seen c.if-byte-read.false))
    ]
