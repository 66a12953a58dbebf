use Rattle.std.proofs.Common.{rules, arith, ap, ◌∙◌, ◌≡◌, ◌*◌, ℕ, ℤ, List, subst, to_z, of_z}
use Rattle.std.specs.Int.{w64}
use Rattle.node_bounds.specs.Areas.{IsSearchArea}
use Rattle.node_bounds.specs.Nodes.{IsNodeOf, IsSplit, stops_of}
use Rattle.node_bounds.specs.Stops.{stops}
use Rattle.open_nodes.specs.Nodes.{box_along}
use Rattle.branching.specs.Internal.Search.{cost_of}
use Rattle.branching.proofs.LoopLaws.{at_node, split_cert}
use Rattle.branching.proofs.search.answered.Given as given
use Rattle.branching.proofs.search.answered.Goals as goal
use Rattle.branching.proofs.search.answered.Goals.{After-cut_to_node, In-Some}

-- the box of the node is one of the search
node_area : (g : given.Over) (c : goal.After-cut_to_node g) → IsSearchArea c.args.model.now c.cut_to_node.new.area
node_area g c =
    at_node (IsSearchArea c.args.model.now) c.args.model.now c.args.search.now.open c.args.key c.set_box.new.area c.cut_to_node.new.area
    c.requires.here c.set_box.ensures.sides c.cut_to_node.ensures c.requires.area

-- the split that was asked for there is a right one
own_split : (g : given.Over) (c : goal.In-Some g)
    → IsSplit c.args.model.now c.args.pivots c.cut_to_node.new.area c.in-Some.field-0.col c.in-Some.field-0.at c.in-Some.field-0.why
    × (stops c.in-Some.field-0.why ≡ 0)
own_split g c =
    let m = c.args.model.now in
    let s = c.in-Some.field-0 in
    at_node (λ (b : List (ℤ × ℤ)). IsSplit m c.args.pivots b s.col s.at s.why × (stops s.why ≡ 0)) m c.args.search.now.open
    c.args.key c.set_box.new.area c.cut_to_node.new.area c.requires.here c.set_box.ensures.sides c.cut_to_node.ensures
    (c.requires.asked s c.in-Some.is)

pub visit-requires-clause-task : goal.visit-requires-clause-task
visit-requires-clause-task g c =
    record { uncrossed = c.requires.uncrossed; area = node_area g (goal.at.visit-requires-clause-task g c).After-cut_to_node }

pub split_or_close-requires-clause-area : goal.split_or_close-requires-clause-area
split_or_close-requires-clause-area g c =
    (node_area g (goal.at.split_or_close-requires-clause-area g c).After-cut_to_node).area

pub split_or_close-requires-clause-cert : goal.split_or_close-requires-clause-cert
split_or_close-requires-clause-cert g c =
    let m = c.args.model.now in
    let s = c.in-Some.field-0 in
    let own = own_split g (goal.at.split_or_close-requires-clause-cert g c).In-Some in
    split_cert m c.args.pivots c.cut_to_node.new.area s.col s.at s.why own.0

pub returns-in-None-clause-fits : goal.returns-in-None-clause-fits
returns-in-None-clause-fits g c =
    let whole = node_area g (goal.at.returns-in-None-clause-fits g c).After-cut_to_node in
    record { area = whole.area.size; work = c.visit.ensures.room }

pub returns-in-Some-clause-node : goal.returns-in-Some-clause-node
returns-in-Some-clause-node g c = λ e is.
    let m = c.args.model.now in
    let s = c.in-Some.field-0 in
    let own = own_split g (goal.at.returns-in-Some-clause-node g c).In-Some in
    let back : to_z w64 (of_z w64 s.at) ≡ s.at = search rules in
    let node = (rw back at (c.split_or_close.ensures.node c.args.pivots)) own.0 in
    let here = rw c.best_cost-cut_at.ensures at node in
    subst (λ (b : List (ℤ × ℤ)). IsNodeOf m c.args.pivots b (cost_of c.args.search.now.found) c.split_or_close.result)
    (c.cut_to_node.ensures e is ∙ ap (box_along e.path) c.set_box.ensures.sides) here

pub returns-in-Some-clause-least : goal.returns-in-Some-clause-least
returns-in-Some-clause-least g c =
    let m = c.args.model.now in
    let s = c.in-Some.field-0 in
    let own = own_split g (goal.at.returns-in-Some-clause-least g c).In-Some in
    let none = own.1 in
    let few = c.split_or_close.ensures.stops in
    let no : stops_of c.split_or_close.result ≡ 0 = omega arith in
    let zero = ap (λ (n : ℕ). n * c.args.pivots) no in
    omega arith

pub returns-in-Some-clause-fits : goal.returns-in-Some-clause-fits
returns-in-Some-clause-fits g c =
    let whole = node_area g (goal.at.returns-in-Some-clause-fits g c).After-cut_to_node in
    record {
      area = whole.area.size;
      work = record {
        scratch = c.split_or_close.ensures.room ∙ c.requires.fits.work.scratch;
        numbers = c.requires.fits.work.numbers;
      };
    }
