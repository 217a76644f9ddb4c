-- One farm moved: its block means its new farm, and nothing else of the table changed.
-- Assumes nothing.
use Prim.Native.Nat.{ℕ, ◌+◌, ◌-◌, ◌*◌, ◌<◌}
use mathlib.Core.Path.{◌≡◌, refl, sym, ap, ◌∙◌, subst}
use mathlib.Core.Bool.{Bool, true, false}
use mathlib.Core.List.{List, ◌++◌}
use mathlib.Core.Logic.{◌⊎◌, inl, inr, ⊎_elim}
use native.Mathlib.Omega.{arith}
use lib.Dec.{eqb}
use lib.ListN.{length, take, drop, set}
use Rattle.octets.specs.Put.{put_at}
use Rattle.octets.proofs.PartsLaws.{mid_put}
use Rattle.octets.proofs.PutLaws.{length-put_at}
use Rattle.octets.proofs.SaysLaws.{never}
use Rattle.octets.proofs.ChoiceLaws.{says_eq}
use Rattle.sheet.specs.Sheet.{most_farms}
use Rattle.model.specs.Farm.{Farm}
use Rattle.model.specs.Move.{Held}
use Rattle.model.specs.Table.{slot}
use Rattle.table.specs.Layout.{block_size, table_size}
use Rattle.table.specs.Block.{farm_of, image, Holds}
use Rattle.table.proofs.BlockLaws.{exact}
use Rattle.lent.specs.Lent.{block, Only, whole_table, lent_table}
use Rattle.lent.proofs.LentLaws.{block_own, block_other, table-put, slot_is}
use Rattle.lent.proofs.BytesLaws.{Exact, whole_exact}

same_by : (b : Bool) (g f : ℕ) → eqb g f ≡ b → (g ≡ f) ⊎ (g ≡ f → ⊥)
same_by true g f e = inl ((says_eq g f).right e)
same_by false g f e = inr (λ k. never (sym e ∙ (says_eq g f).all k))

same_or_not : (g f : ℕ) → (g ≡ f) ⊎ (g ≡ f → ⊥)
same_or_not g f = same_by (eqb g f) g f refl

-- a function was lent the block and left b there
pub lent_back : (t b : List ℕ) (f e : ℕ) → length t ≡ table_size → f < most_farms → e ≡ f * block_size + block_size → length b ≡ block_size
    → let after : List ℕ = take (f * block_size) t ++ (b ++ drop (e - f * block_size) (drop (f * block_size) t)) in (block after f ≡ b) × Only f t after
lent_back t b f e long h k full =
    let n : e - f * block_size ≡ block_size = omega (arith, k) in
    let p : take (f * block_size) t ++ (b ++ drop (e - f * block_size) (drop (f * block_size) t)) ≡ put_at t (f * block_size) b =
    ap (λ (x : ℕ). take (f * block_size) t ++ (b ++ drop x (drop (f * block_size) t))) n ∙ mid_put t b (f * block_size) block_size full in
    let o : block (take (f * block_size) t ++ (b ++ drop (e - f * block_size) (drop (f * block_size) t))) f ≡ b = ap (λ (x : List ℕ). block x f) p ∙ block_own t b f long full h in
    (o, record { long = ap length o ∙ full; put = p ∙ ap (put_at t (f * block_size)) (sym o) })

module _ (s t m after : List ℕ) (f : ℕ) (x : Farm) (long : length t ≡ table_size) (h : f < most_farms) (only : Only f t after) (holds : Holds (block after f) x) where
  pub moved_long : length after ≡ table_size
  moved_long = ap length only.put ∙ length-put_at t (f * block_size) (block after f) (omega (arith, long, only.long, h)) ∙ long

  -- the table that the memory means has the new farm in its slot
  pub moved_means : lent_table s after m ≡ set (lent_table s t m) f (record { farm = x; rooms = (slot (lent_table s t m) f).rooms })
  moved_means =
      ap (λ (y : List ℕ). lent_table s y m) only.put
      ∙ table-put t (block after f) f long only.long h s m
      ∙ ap (λ (y : Held). set (lent_table s t m) f (record { farm = farm_of (block after f); rooms = y.rooms })) (sym (slot_is s t m f h))
      ∙ ap (λ (y : Farm). set (lent_table s t m) f (record { farm = y; rooms = (slot (lent_table s t m) f).rooms })) holds.is

  pub moved_whole : whole_table t ≡ true → whole_table after ≡ true
  moved_whole w = (whole_exact after).all each
    where
      each : Exact after
      each g k =
          ⊎_elim
          (λ (e : g ≡ f). subst (λ (y : ℕ). image (farm_of (block after y)) ≡ block after y) (sym e) (exact (block after f) holds.whole))
          (λ (n : g ≡ f → ⊥).
          let o : block after g ≡ block t g = ap (λ (y : List ℕ). block y g) only.put ∙ block_other t (block after f) f long only.long h g n in
          ap (λ (y : List ℕ). image (farm_of y)) o ∙ (whole_exact t).right w g k ∙ sym o)
          (same_or_not g f)
