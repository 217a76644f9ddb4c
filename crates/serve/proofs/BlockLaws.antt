-- A function was lent a farm's block of the table: what it did there is done to the table.
-- Assumes nothing.
use Rattle.std.proofs.Common.{Option}
use Prim.Native.Nat.{ℕ, ◌+◌, ◌-◌, ◌*◌, ◌<◌}
use mathlib.Core.Path.{◌≡◌, sym, ap, ◌∙◌, subst}
use mathlib.Core.List.{List, ◌++◌}
use native.Mathlib.Omega.{arith}
use lib.ListN.{length, take, drop}
use Rattle.kinds.specs.declared.Item.{Item}
use Rattle.octets.specs.Parts.{part}
use Rattle.octets.proofs.PartsLaws.{part-between}
use Rattle.sheet.specs.Sheet.{most_farms}
use Rattle.model.specs.Farm.{Farm, Done}
use Rattle.table.specs.Layout.{block_size, table_size}
use Rattle.table.specs.Block.{farm_of}
use Rattle.closing.specs.Did.{Did}
use Rattle.farm.specs.Connected.{Connected}
use Rattle.lent.specs.Lent.{block, Only}
use Rattle.lent.proofs.MoveLaws.{lent_back}
use Rattle.serve.specs.Moved.{DidAt, ConnectedAt}

-- where the block of farm f begins and ends
abbrev pub Ends : ℕ → ℕ → ℕ → Type 0
Ends f a e = (a ≡ f * block_size) × (e ≡ f * block_size + block_size)

-- the block, as a range lends it
abbrev pub lent_block : List ℕ → ℕ → ℕ → List ℕ
lent_block t a e = take (e - a) (drop a t)

-- the table, once b is given back
abbrev pub given_back : List ℕ → ℕ → ℕ → List ℕ → List ℕ
given_back t a e b = take a t ++ (b ++ drop (e - a) (drop a t))

pub lent_is : (t : List ℕ) (f a e : ℕ) → Ends f a e → lent_block t a e ≡ block t f
lent_is t f a e k = part-between t a e block_size (omega (arith, k.0, k.1)) ∙ ap (λ (x : ℕ). part t x block_size) k.0

pub back_is : (t b : List ℕ) (f a e : ℕ) → Ends f a e → length t ≡ table_size → f < most_farms → length b ≡ block_size
    → (block (given_back t a e b) f ≡ b) × Only f t (given_back t a e b)
back_is t b f a e k long h full =
    subst (λ (x : ℕ). (block (given_back t x e b) f ≡ b) × Only f t (given_back t x e b)) (sym k.0) (lent_back t b f e long h k.1 full)

module _ (t b : List ℕ) (f a e : ℕ) (k : Ends f a e) (long : length t ≡ table_size) (h : f < most_farms) where
  pub did-lent : (p plan : List Item) (step : Farm → Done) → Did p b plan (step (farm_of (lent_block t a e)))
      → DidAt f (step (farm_of (block t f))) p t plan (given_back t a e b)
  did-lent p plan step d =
      let back = back_is t b f a e k long h d.whole.long in
      record {
        only = back.1;
        did =
            subst (λ (x : List ℕ). Did p x plan (step (farm_of (block t f)))) (sym back.0)
            (subst (λ (x : List ℕ). Did p b plan (step (farm_of x))) (lent_is t f a e k) d);
      }

  pub connected-lent : (rows : ℕ) (r : Option ℕ) → Connected rows (lent_block t a e) b r → ConnectedAt f rows t (given_back t a e b) r
  connected-lent rows r d =
      let back = back_is t b f a e k long h d.held.whole.long in
      record {
        only = back.1;
        connected =
            subst (λ (x : List ℕ). Connected rows (block t f) x r) (sym back.0)
            (subst (λ (x : List ℕ). Connected rows x b r) (lent_is t f a e k) d);
      }
