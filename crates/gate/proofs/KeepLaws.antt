-- Refusals 1 to 4 as the code asks them, one after the other.
-- Assumes nothing.
use Prim.Native.Nat.{ℕ, zero, suc, ◌<◌}
use mathlib.Core.Path.{◌≡◌, refl, sym, ap, ◌∙◌}
use mathlib.Core.Bool.{Bool, true, false}
use mathlib.Core.List.{List}
use native.Mathlib.Omega.{arith}
use Rattle.octets.specs.Choice.{both, unless}
use Rattle.sheet.specs.Sheet.{most_farms}
use Rattle.sheet.specs.Test.{every_below}
use Rattle.model.specs.Table.{good_table}
use Rattle.rules.specs.Rules.{slot_keeps, table_keeps}
use Rattle.lent.specs.Lent.{whole_table, lent_table}
use Rattle.lent.specs.Gate.{start_number, gate_number, Lendable}
use Rattle.lent.proofs.GateLaws.{gate_first, gate_last}
use Rattle.lent.proofs.KeepsLaws as lent

-- rule 4 over the lent table is the model's, of bytes that are those of a table
keeps_all : (s t m : List ℕ) → table_keeps s t ≡ every_below (lent.slot_keeps s t m) most_farms
unfolding table_keeps slot_keeps every_below
keeps_all s t m = refl

keeps_as : (s t m : List ℕ) → table_keeps s t ≡ both (whole_table t) (good_table s (lent_table s t m))
keeps_as s t m = keeps_all s t m ∙ lent.keeps_is s t m

module _ (s t out m : List ℕ) where
  pub gate_stop : (n : ℕ) → n ≡ start_number s out m → 0 < n → n ≡ gate_number s t out m
  gate_stop zero e h = absurd (omega (arith, h))
  gate_stop (suc n) e h = sym (gate_first s out m t n (sym e))

  pub gate_broken : Lendable s out m → table_keeps s t ≡ false → 4 ≡ gate_number s t out m
  gate_broken p e = sym (gate_last s out m t p ∙ ap (λ (b : Bool). unless b 4 0) (sym (keeps_as s t m) ∙ e))

  pub gate_good : Lendable s out m → table_keeps s t ≡ true → 0 ≡ gate_number s t out m
  gate_good p e = sym (gate_last s out m t p ∙ ap (λ (b : Bool). unless b 4 0) (sym (keeps_as s t m) ∙ e))
