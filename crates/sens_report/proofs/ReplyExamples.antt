-- Printed replies, computed.
use Rattle.std.specs.Prelude.{◌≡◌, [], ◌∷◌, codes, refl, None, Some, pos, negsuc}
use Rattle.std.specs.Fmt.{digits}
use Rattle.ip_defs.specs.declared.certificates.Bound.TheVariants.{At, Infinite}
use Rattle.sens_report.specs.ReplyTexts.{reply_lines}
use Rattle.sens_report.specs.declared.replies.Reply.TheVariants.{Bound, Range}

pub bounds : reply_lines (Bound (At (negsuc 12)) 0 ∷ Bound Infinite 2 ∷ []) ≡ codes "1 bound -13\n2 bound empty\n"
unfolding digits
bounds = refl

pub ranges : reply_lines (Range (Some (negsuc 149, pos 25)) 1 ∷ Range None 0 ∷ []) ≡ codes "1 range -15 2.5\n2 range none\n"
unfolding digits
ranges = refl
