use Rattle.std.proofs.Common.{nat_lt, if◌then◌else◌}
use Rattle.tableau.specs.declared.positions.Rest.TheVariants.{Basic, Low}
use Rattle.tableau.proofs.ListLaws.{listed-push}
use Rattle.tableau.proofs.starts.start_positions.Goals as goal

pub loop-v-preserved : goal.loop-v-preserved
loop-v-preserved c = listed-push c.loop-v.v (λ v. if nat_lt v c.args.columns then Low
    else Basic) _ c.loop-v.positions.items c.push.new.self.items c.in_ok-push.ensures.items c.loop-v.invariant c.start_position.ensures
