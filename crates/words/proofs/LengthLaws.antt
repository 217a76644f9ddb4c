-- What is said is short.
-- Assumes nothing.
use mathlib.Core.Bool.{Bool, true, false}
use mathlib.Core.List.{List, [], ◌∷◌, ◌++◌}
use Prim.Native.Nat.{ℕ, suc, ◌+◌, ◌≤◌}
use Prim.Native.String.{String}
use native.Mathlib.Omega.{arith}
use lib.Dec.{T, eqb, leb, leb→le}
use lib.ListN.{length, get_or, drop, length-append}
use Rattle.octets.specs.Choice.{pick}
use Rattle.words.specs.Said.{spelled}
use Rattle.words.specs.Book.{fill}
use Rattle.words.specs.Names.{Line, name_in, refusals, refusal_name, faults, fault_name, activations, activation_name, diagnostics, diagnostic_name, modes, mode_name}

-- the longer of two texts is no longer than this
pub pick-short : (b : Bool) (x y : List ℕ) (n : ℕ) → length x ≤ n → length y ≤ n → length (pick b x y) ≤ n
pick-short true x y n h k = h
pick-short false x y n h k = k

-- each text fills one hole at most
unfoldable pub total : List (List ℕ) → ℕ
total [] = 0
total (t ∷ ts) = length t + total ts

pub fill-short : (t : List ℕ) (ts : List (List ℕ)) → length (fill t ts) ≤ length t + total ts
unfolding fill total
fill-short [] ts = omega arith
fill-short (c ∷ t) ts = by ts (eqb c 37) (fill-short t)
  where
    by : (us : List (List ℕ)) (b : Bool) → ((vs : List (List ℕ)) → length (fill t vs) ≤ length t + total vs)
        → length (pick b (get_or us 0 [] ++ fill t (drop 1 us)) (c ∷ fill t us)) ≤ suc (length t) + total us
    by [] true h = omega (arith, h [])
    by (u ∷ us) true h = omega (arith, h us, length-append u (fill t us))
    by [] false h = omega (arith, h [])
    by (u ∷ us) false h = omega (arith, h (u ∷ us))

-- the longest name of a table
abbrev pub most_name : ℕ
most_name = 64

short : List Line → Bool
short [] = true
short (l ∷ ls) = pick (leb (length (spelled l.name)) most_name) (short ls) false

name-short : (ls : List Line) (other : String) (n : ℕ) → T (short ls) → length (spelled other) ≤ most_name → length (name_in ls other n) ≤ most_name
unfolding short
name-short [] other n h k = k
name-short (l ∷ ls) other n h k = by (leb (length (spelled l.name)) most_name) (leb→le (length (spelled l.name)) most_name) h (λ r. name-short ls other n r k)
  where
    by : (b : Bool) → (T b → length (spelled l.name) ≤ most_name) → T (pick b (short ls) false) → (T (short ls) → length (name_in ls other n) ≤ most_name)
        → length (pick (eqb n l.number) (spelled l.name) (name_in ls other n)) ≤ most_name
    by true f g r = pick-short (eqb n l.number) (spelled l.name) (name_in ls other n) most_name (f tt) (r g)
    by false f g r = absurd g

pub refusal-short : (n : ℕ) → length (refusal_name n) ≤ most_name
unfolding refusal_name short
refusal-short n = name-short refusals "a number without a meaning" n tt (omega arith)

pub fault_short : (n : ℕ) → length (fault_name n) ≤ most_name
unfolding fault_name short
fault_short n = name-short faults "an unknown code" n tt (omega arith)

pub activation_short : (n : ℕ) → length (activation_name n) ≤ most_name
unfolding activation_name short
activation_short n = name-short activations "an unknown code" n tt (omega arith)

pub diagnostic-short : (n : ℕ) → length (diagnostic_name n) ≤ most_name
unfolding diagnostic_name short
diagnostic-short n = name-short diagnostics "an unknown code" n tt (omega arith)

pub mode_short : (n : ℕ) → length (mode_name n) ≤ most_name
unfolding mode_name short
mode_short n = name-short modes "an unknown mode" n tt (omega arith)
