-- What a step of a recursive descent reads, from one place of bytes to another, and the fault at which it stops.
use Rattle.std.specs.Prelude.{◌≡◌, ℕ, ◌+◌, ◌≤◌, ◌<◌, List, ◌++◌, length, drop, true, ℤ}
use Rattle.std.specs.List.{list_all}
use Rattle.ip_defs.specs.Lists.{Each}
use Rattle.proof_tree.specs.LabelledTrees.{node_count, depth}
use Rattle.proof_tree.specs.Trees.{PlainTree, is_multiplier, rise_from}
use Rattle.proof_tree.specs.Within.{AreNumbersWithin}
use Rattle.tree_format.specs.Readings.{Reading}
use Rattle.tree_format.specs.Grammar.{number_at, IsErrorOf}
use Rattle.tree_format.specs.RowSpellings.{PlainPiece, IsPieceWithin, nodes_of}
use Rattle.tree_format.specs.declared.errors.TreeError.{TreeError}
use Rattle.tree_format.specs.declared.tokens.Token.{Token}
use Rattle.tree_format.specs.declared.tree_steps.Kind.{Kind}
use Rattle.tree_format.specs.declared.tree_steps.Kind.TheVariants.{Leaf, Split}

-- some bytes stand between two places of bytes
pub record Stands (bytes : List ℕ) (i j : ℕ) (xs : List ℕ) : Type 0 where
  pub is : drop i bytes ≡ xs ++ drop j bytes
  pub place : j ≡ i + length xs
  pub within : j ≤ length bytes

-- whatever is to follow, a reading stops at an error of its own, or memory ran out
abbrev pub IsFault : ((ℕ → List ℕ → Reading Token) → Reading Token) → TreeError → Type 0
IsFault reading e = (next : ℕ → List ℕ → Reading Token) → IsErrorOf (reading next).fault e

-- the same of a reading whose value is used by what follows
abbrev pub IsValueFault : ((ℕ → ℕ → List ℕ → Reading Token) → Reading Token) → TreeError → Type 0
IsValueFault reading e = (next : ℕ → ℕ → List ℕ → Reading Token) → IsErrorOf (reading next).fault e

abbrev pub IsNumberFault : ℕ → ℕ → List ℕ → TreeError → Type 0
IsNumberFault greatest place bytes e = IsValueFault (number_at greatest place bytes) e

-- multipliers that may stand, whose rows increase from a least one on
pub record AreMultipliers (least : ℕ) (y : List (ℕ × ℤ)) : Type 0 where
  pub rising : rise_from least y ≡ true
  pub each : list_all (is_multiplier 1024) y ≡ true

-- a tree of at most some levels, some nodes before it and some after it, with each number within its limit
pub record IsTreeStep (levels before after : ℕ) (t : PlainTree) : Type 0 where
  pub deep : depth t < levels
  pub counted : after ≡ before + node_count t
  pub few : after ≤ 1000000
  pub numbers : AreNumbersWithin t

-- the byte of each kind of node
abbrev pub tag_of : Kind → ℕ
tag_of Leaf = 76
tag_of Split = 83

-- a piece whose tree is counted with the nodes before it
pub record IsPieceStep (before after : ℕ) (p : PlainPiece) : Type 0 where
  pub within : IsPieceWithin p
  pub counted : after ≡ before + node_count p.tree
  pub few : after ≤ 1000000

-- pieces that are counted together
pub record ArePieces (count nodes : ℕ) (ps : List PlainPiece) : Type 0 where
  pub size : length ps ≡ count
  pub each : Each IsPieceWithin ps
  pub counted : nodes ≡ nodes_of ps
  pub few : nodes ≤ 1000000
