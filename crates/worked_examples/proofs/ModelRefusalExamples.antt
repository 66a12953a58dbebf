-- Texts that are refused for their columns, their objective, their end or a limit, with the first fault of each, computed.
use Rattle.std.specs.Prelude.{ℕ, List, ◌∷◌, [], ◌++◌, codes, refl, pos}
use Rattle.std.specs.Str.{is_utf8, chars}
use Rattle.std.proofs.Math.ListN.{replicate}
use Rattle.worked_examples.specs.Texts.{RefusesEach, plain, boxed, limit_of, text_of, with_rows, with_columns, with_rest}
use Rattle.mps_defs.specs.declared.reading.Side.TheVariants.{Lower, Upper}
use Rattle.ip_defs.specs.declared.limits.What.TheVariants.{Cost as WCost, Lower as WLower, Upper as WUpper, RowName as WRowName}
use Rattle.ip_defs.specs.declared.limits.What.TheVariants.{Coef as WCoef, Side as WSide, Constant as WConstant}
use Rattle.mps_defs.specs.declared.reading.MpsError.TheVariants.{Continuous, NoBound, NegativeUpper, NoObjective, NoEnd}

-- a row whose name has 256 bytes
abbrev long_row_name : List ℕ
long_row_name =
    text_of (codes " N c\n L " ++ replicate 256 114 ++ codes "\n") (codes " x c 1\n") (codes "BOUNDS\n UP B x 3\nENDATA\n")

pub refused_as_a_whole : RefusesEach (
    -- a column that is not integer
    (codes "ROWS\n N c\n L r\nCOLUMNS\n x c 1\nBOUNDS\n UP B x 3\nENDATA\n", plain, Continuous (codes "x"))
    -- a column without a bound
    ∷ (with_rest (codes "ENDATA\n"), plain, NoBound (codes "x") Upper)
    ∷ (with_rest (codes "BOUNDS\n FR x\nENDATA\n"), plain, NoBound (codes "x") Lower)
    ∷ (with_rest (codes "BOUNDS\n LO x 9\nENDATA\n"), boxed (pos 5), NoBound (codes "x") Upper)
    ∷ (with_rest (codes "BOUNDS\n MI x\n UP x -inf\nENDATA\n"), boxed (pos 5), NoBound (codes "x") Lower)
    ∷ (with_rest (codes "BOUNDS\n FX x inf\nENDATA\n"), boxed (pos 5), NoBound (codes "x") Upper)
    ∷ (with_rest (codes "BOUNDS\n FX x inf\nENDATA\n"), plain, NoBound (codes "x") Upper)
    -- a negative upper bound alone
    ∷ (with_rest (codes "BOUNDS\n UP x -1\nENDATA\n"), plain, NegativeUpper (codes "x"))
    ∷ (with_rest (codes "BOUNDS\n UP x -0.5\nENDATA\n"), plain, NegativeUpper (codes "x"))
    ∷ (with_rest (codes "BOUNDS\n UP x -inf\nENDATA\n"), plain, NegativeUpper (codes "x"))
    -- a number or a name beyond its limit
    ∷ (with_columns (codes " x c 1 r 1099511627777\n"), plain, limit_of WCoef)
    ∷ (with_columns (codes " x c 1e20\n"), plain, limit_of WCost)
    ∷ (with_rest (codes "BOUNDS\n LO x inf\n UP x inf\n UP x 4\nENDATA\n"), plain, limit_of WLower)
    ∷ (with_rest (codes "RHS\n c -1e19\nBOUNDS\n UP B x 3\nENDATA\n"), plain, limit_of WConstant)
    ∷ (with_rest (codes "RHS\n r -inf\nBOUNDS\n UP B x 3\nENDATA\n"), plain, limit_of WSide)
    ∷ (with_rest (codes "RHS\n r inf\nRANGES\n r 3\nBOUNDS\n UP B x 3\nENDATA\n"), plain, limit_of WSide)
    ∷ (with_rest (codes "RHS\n r -4611686018427387904\nRANGES\n r 1\nBOUNDS\n UP B x 3\nENDATA\n"), plain, limit_of WSide)
    ∷ (with_rest (codes "RHS\n r 1e19\nBOUNDS\n UP B x 3\nENDATA\n"), plain, limit_of WSide)
    ∷ (with_rest (codes "BOUNDS\n UP x 16777217\nENDATA\n"), plain, limit_of WUpper)
    ∷ (long_row_name, plain, limit_of WRowName)
    -- no objective
    ∷ (with_rows (codes " L c\n G r\n"), plain, NoObjective)
    -- no end
    ∷ (with_rest (codes "BOUNDS\n UP B x 3\n"), plain, NoEnd)
    ∷ ([], plain, NoEnd)
    ∷ [])
unfolding is_utf8 chars lib.Utf8.encode
refused_as_a_whole = refl
