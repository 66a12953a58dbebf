-- The words of a command line: one table of the commands, and the request that plain words ask for. Words are plain where they are
-- a command that is built, its operands, and options of the command: each as two words, the option and its value, and at most once.
use Rattle.std.specs.Prelude.{ℕ, ◌%◌, ◌==◌, nat_le, Bool, true, false, ◌&&◌, ◌||◌, not, Option, None, option_map, option_and_then}
use Rattle.std.specs.Prelude.{List, [], ◌∷◌, length, map, take, drop, find, slice_index_or, bytes_eq, codes, ℤ, pos}
use Rattle.std.specs.List.{list_all}
use Rattle.std.specs.Option.{option_map_or}
use Rattle.mps_defs.specs.Lists.{where_true, is_among}
use Rattle.mps_defs.specs.Numbers.{is_digit, digits_value}
use Rattle.ips_words.specs.declared.commands.Kind.{Kind}
use Rattle.ips_words.specs.declared.commands.Kind.TheVariants.{Name, Number}
use Rattle.ips_words.specs.declared.requests.Request.{Request}
use Rattle.ips_words.specs.declared.requests.Request.TheVariants.{Solve, Check, Ask, Sweep, Recheck, Show, Trial}

abbrev pub Word : Type 0
Word = List ℕ

-- a name is not empty and does not begin with a minus
abbrev pub is_name : Word → Bool
is_name [] = false
is_name (b ∷ bs) = not (b == 45)

-- 1 to 10 digits without a leading zero but in `0`
abbrev pub is_numeral : Word → Bool
is_numeral w =
    list_all is_digit w && nat_le 1 (length w) && nat_le (length w) 10
    && (length w == 1 || not (slice_index_or w 0 48 == 48))

-- a number from low to high
abbrev pub is_number_from : ℕ → ℕ → Word → Bool
is_number_from low high w = is_numeral w && nat_le low (digits_value w) && nat_le (digits_value w) high

abbrev pub is_of_kind : Kind → Word → Bool
is_of_kind Name w = is_name w
is_of_kind (Number low high) w = is_number_from low high w

-- an option: its word, what its value is, and whether it is built
pub record Choice : Type 0 where
  pub word : Word
  pub value : Kind
  pub built : Bool

-- a command: its word, what its operands are, its options, whether it is built, and the request that its operands, by their places, and
-- the values of its options ask for
pub record Command : Type 0 where
  pub word : Word
  pub operands : List Kind
  pub choices : List Choice
  pub built : Bool
  pub request : (ℕ → Word) → (Word → Option Word) → Request

-- the number of an option, or its default
abbrev pub number_of : Word → ℕ → (Word → Option Word) → ℕ
number_of o default value = option_map_or digits_value (value o) default

abbrev pub nodes_of : (Word → Option Word) → ℕ
nodes_of value = number_of (codes "--nodes") 100000 value

abbrev pub depth_of : (Word → Option Word) → ℕ
depth_of value = number_of (codes "--depth") 800 value

abbrev pub pivots_of : (Word → Option Word) → ℕ
pivots_of value = number_of (codes "--pivots") 5000 value

abbrev pub digits_of : (Word → Option Word) → ℕ
digits_of value = number_of (codes "--digits") 0 value

abbrev pub box_of : (Word → Option Word) → Option ℤ
box_of value = option_map (λ v. pos (digits_value v)) (value (codes "--box"))

-- the request of each command
abbrev pub solve_request : (ℕ → Word) → (Word → Option Word) → Request
solve_request name value =
    Solve (name 0) (value (codes "--tree"))
    (nodes_of value) (depth_of value) (pivots_of value) (digits_of value) (box_of value)

abbrev pub check_request : (ℕ → Word) → (Word → Option Word) → Request
check_request name value = Check (name 0) (name 1) (digits_of value) (box_of value)

abbrev pub ask_request : (ℕ → Word) → (Word → Option Word) → Request
ask_request name value = Ask (name 0) (name 1) (name 2) (digits_of value) (box_of value)

abbrev pub sweep_request : (ℕ → Word) → (Word → Option Word) → Request
sweep_request name value =
    Sweep (name 0) (name 1) (value (codes "--proof"))
    (nodes_of value) (depth_of value) (pivots_of value) (digits_of value) (box_of value)

abbrev pub recheck_request : (ℕ → Word) → (Word → Option Word) → Request
recheck_request name value = Recheck (name 0) (name 1) (name 2) (digits_of value) (box_of value)

abbrev pub show_request : (ℕ → Word) → (Word → Option Word) → Request
show_request name value = Show (name 0) (digits_of value) (box_of value)

abbrev pub trial_request : (ℕ → Word) → (Word → Option Word) → Request
trial_request name value = Trial (digits_value (name 0))

-- a line of the tables of options and of commands
abbrev pub choice : Word → Kind → Bool → Choice
choice word value built = record { word = word; value = value; built = built }

abbrev pub command : Word → List Kind → List Choice → Bool → ((ℕ → Word) → (Word → Option Word) → Request) → Command
command word operands choices built request =
    record { word = word; operands = operands; choices = choices; built = built; request = request }

-- the files in which a proof is saved
abbrev pub tree_choice : Choice
tree_choice = choice (codes "--tree") Name true

abbrev pub proof_choice : Choice
proof_choice = choice (codes "--proof") Name true

-- how a model is read: the least decimals of its units, and the side that an absent bound gets
abbrev pub reading_choices : List Choice
reading_choices =
    choice (codes "--digits") (Number 0 9) true
    ∷ choice (codes "--box") (Number 0 16777216) true ∷ []

-- and the limits of a search: its nodes, their depth, and the steps of the linear program of a node
abbrev pub search_choices : List Choice
search_choices =
    choice (codes "--nodes") (Number 1 1000000) true
    ∷ choice (codes "--depth") (Number 0 800) true
    ∷ choice (codes "--pivots") (Number 0 100000) true ∷ reading_choices

-- the commands
abbrev pub solve : Command
solve = command (codes "solve") (Name ∷ []) (tree_choice ∷ search_choices) true solve_request

abbrev pub check : Command
check = command (codes "check") (Name ∷ Name ∷ []) reading_choices true check_request

abbrev pub ask : Command
ask = command (codes "ask") (Name ∷ Name ∷ Name ∷ []) reading_choices true ask_request

abbrev pub sweep : Command
sweep = command (codes "sweep") (Name ∷ Name ∷ []) (proof_choice ∷ search_choices) true sweep_request

abbrev pub recheck : Command
recheck = command (codes "recheck") (Name ∷ Name ∷ Name ∷ []) reading_choices true recheck_request

abbrev pub show : Command
show = command (codes "show") (Name ∷ []) reading_choices true show_request

abbrev pub trial : Command
trial = command (codes "trial") (Number 0 4294967295 ∷ []) [] false trial_request

unfoldable pub commands : List Command
commands = solve ∷ check ∷ ask ∷ sweep ∷ recheck ∷ show ∷ trial ∷ []

-- the words begin with words of these kinds
abbrev pub begin_with : List Kind → List Word → Bool
begin_with [] ws = true
begin_with (k ∷ ks) [] = false
begin_with (k ∷ ks) (w ∷ ws) = is_of_kind k w && begin_with ks ws

-- words by twos
abbrev pub twos : List Word → List (Word × Word)
twos [] = []
twos (o ∷ []) = []
twos (o ∷ v ∷ ws) = (o, v) ∷ twos ws

-- an option of the list that is built, with a value that it takes
abbrev pub is_choice : List Choice → Word × Word → Bool
is_choice choices p = option_map_or (λ c. c.built && is_of_kind c.value p.1) (find (λ c. bytes_eq c.word p.0) choices) false

-- no word stands twice
abbrev pub are_distinct : List Word → Bool
are_distinct [] = true
are_distinct (w ∷ ws) = not (is_among w ws) && are_distinct ws

-- words by twos, each an option of the list with its value, no option twice
abbrev pub are_options : List Choice → List Word → Bool
are_options choices ws =
    length ws % 2 == 0 && list_all (is_choice choices) (twos ws) && are_distinct (map (λ p. p.0) (twos ws))

-- the words after a command that is built are its operands and options of it
abbrev pub are_plain_for : Command → List Word → Bool
are_plain_for c ws = c.built && begin_with c.operands ws && are_options c.choices (drop (length c.operands) ws)

-- an operand by its place
abbrev pub operand : List Word → ℕ → Word
operand operands i = slice_index_or operands i []

-- the value of an option among options with their values
abbrev pub value_of : Word → List (Word × Word) → Option Word
value_of o ps = option_map (λ p. p.1) (find (λ p. bytes_eq p.0 o) ps)

abbrev pub value_in : List Word → Word → Option Word
value_in ws o = value_of o (twos ws)

-- the request of a command with the words after it
abbrev pub request_by : Command → List Word → Request
request_by c ws = c.request (operand (take (length c.operands) ws)) (value_in (drop (length c.operands) ws))

-- the command that a word is
abbrev pub command_named : Word → Option Command
command_named w = find (λ c. bytes_eq c.word w) commands

-- the request of the words, or none where they are not plain
abbrev pub request_of : List Word → Option Request
request_of [] = None
request_of (w ∷ ws) = option_and_then (λ c. where_true (are_plain_for c ws) (request_by c ws)) (command_named w)
