-- One step of the simplex for variables with sides, by the least-number rule: first a basic variable outside its sides is brought back,
-- then the cost is lowered. Each choice is the first one by number.
use Rattle.std.specs.Prelude.{ℕ, zero, suc, ◌==◌, ◌&&◌, not, Bool, true, false, if◌then◌else◌, length, Option, Some, None, option_map}
use Rattle.std.specs.Prelude.{option_and_then, ℤ, pos}
use Rattle.std.specs.List.{position}
use Rattle.ip_defs.specs.Lists.{first}
use Rattle.std.specs.Int.Signed.{lt_z}
use Rattle.frac128.specs.Rationals.{Rational, of, neg, absolute}
use Rattle.lp_duality.specs.Duals.{is_below}
use Rattle.tableau.specs.declared.positions.Rest.{Rest}
use Rattle.tableau.specs.declared.positions.Rest.TheVariants.{Basic, Low, High, Zero}
use Rattle.tableau.specs.Tables.{Table, basic_at, position_at, variable_at}
use Rattle.tableau.specs.Numbers.{side_at, is_fixed, range}
use Rattle.tableau.specs.Nodes.{number}
use Rattle.tableau.specs.Meanings.{value_number, price_number, ratio_number}
use Rattle.simplex_laws.specs.declared.next.Next.{Next}
use Rattle.simplex_laws.specs.declared.next.Next.TheVariants.{Pivot, Flip, FinalRow, FinalPoint}

-- ---- the direction in which a variable can move
-- a position from which a nonbasic variable can rise (up), or fall
abbrev pub allows : Bool → Rest → Bool
allows up Basic = false
allows true Low = true
allows true High = false
allows false Low = false
allows false High = true
allows up Zero = true

abbrev pub can_move : Table → Bool → ℕ → Bool
can_move T up v = allows up (position_at T.positions v) && not (is_fixed (variable_at T.variables v))

-- the direction of a variable by a number's sign: up below 0 where it can rise, down above 0 where it can fall
abbrev pub direction : Table → Rational → ℕ → Option Bool
direction T p v =
    if lt_z p.numerator (pos 0) && can_move T true v then Some true
    else if lt_z (pos 0) p.numerator && can_move T false v then Some false else None

-- ---- a basic variable outside its sides
-- whether it has to rise, where a number is outside two sides
abbrev pub over_high : Rational → Option ℤ → Option Bool
over_high x None = None
over_high x (Some high) = if is_below (of high) x then Some false else None

abbrev pub outside : Rational → Option ℤ → Option ℤ → Option Bool
outside x None high = over_high x high
outside x (Some low) high = if is_below x (of low) then Some true else over_high x high

-- the row of a basic variable that is outside its sides, and whether it has to rise
abbrev pub infeasible : Table → ℕ → Option (ℕ × Bool)
infeasible T v = option_and_then
    (λ i. option_map (λ up. (i, up)) (outside (value_number T i) (variable_at T.variables v).low (variable_at T.variables v).high))
    (position (λ w. w == v) T.basics)

-- the side at which a variable leaves that moves up or down
abbrev pub side_towards : Bool → Rest
side_towards true = High
side_towards false = Low

-- the variable that enters to let the basic variable of a row rise or fall
abbrev pub row_entering : Table → ℕ → Bool → Option ℕ
row_entering T i up = first
    (λ v. option_map (λ up. v) (direction T (if up then number T i v else neg (number T i v)) v)) (length T.variables)

-- the row's basic variable leaves at the side that it broke
abbrev pub restore : ℕ → Bool → Option ℕ → Next
restore i up None = FinalRow i up
restore i up (Some v) = Pivot i v (side_towards (not up))

-- ---- a variable that lowers the cost
-- the side towards which a basic variable moves, by its entry's sign, where v moves up or down
abbrev pub side_met : Bool → Rational → Option Rest
side_met up t =
    if lt_z t.numerator (pos 0) then Some (side_towards up)
    else if lt_z (pos 0) t.numerator then Some (side_towards (not up)) else None

-- row i's basic variable blocks v at a side, where it has that side: how far v moves until then, and the pivot
abbrev pub block_at : Table → ℕ → ℕ → Rest → Option (Rational × Next)
block_at T v i side = option_map (λ there. (absolute (ratio_number T i v side), Pivot i v side))
    (side_at (variable_at T.variables (basic_at T.basics i)) side)

-- where variable w blocks v: v itself at its own other side, a basic variable at the side towards which it moves
abbrev pub block : Table → ℕ → Bool → ℕ → Option (Rational × Next)
block T v up w =
    if w == v then option_map (λ far. (far, Flip v)) (range (variable_at T.variables v))
    else option_and_then (λ i. option_and_then (block_at T v i) (side_met up (number T i v))) (position (λ z. z == w) T.basics)

-- the nearer of two blocks, the first among equals
abbrev pub nearer : Option (Rational × Next) → Option (Rational × Next) → Option (Rational × Next)
nearer None o = o
nearer (Some x) None = Some x
nearer (Some x) (Some y) = if is_below y.0 x.0 then Some y else Some x

abbrev pub nearest : (ℕ → Option (Rational × Next)) → ℕ → Option (Rational × Next)
nearest f zero = None
nearest f (suc n) = nearer (nearest f n) (f n)

-- what blocks v first; something always does, since each column has both sides
abbrev pub move_by : Option (Rational × Next) → Next
move_by None = FinalPoint
move_by (Some x) = x.1

abbrev pub move : Table → ℕ × Bool → Next
move T chosen = move_by (nearest (block T chosen.0 chosen.1) (length T.variables))

-- the first variable whose reduced cost lets it lower the cost, and its direction
abbrev pub entering : Table → Option (ℕ × Bool)
entering T = first (λ v. option_map (λ up. (v, up)) (direction T (price_number T v) v)) (length T.variables)

-- ---- the next step
abbrev pub improve : Table → Option (ℕ × Bool) → Next
improve T None = FinalPoint
improve T (Some chosen) = move T chosen

abbrev pub by_infeasible : Table → Option (ℕ × Bool) → Next
by_infeasible T None = improve T (entering T)
by_infeasible T (Some x) = restore x.0 x.1 (row_entering T x.0 x.1)

unfoldable pub next : Table → Next
next T = by_infeasible T (first (infeasible T) (length T.variables))

abbrev pub is_final : Next → Bool
is_final (Pivot r v leaving) = false
is_final (Flip v) = false
is_final (FinalRow i up) = true
is_final FinalPoint = true
