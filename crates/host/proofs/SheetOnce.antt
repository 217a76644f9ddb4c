-- An output sheet can be read in one way only: two lists of entries with the same sheet are equal. So what a call wrote is settled by the bytes.
-- Assumes nothing.
use Prim.Native.Nat.{ℕ, ◌+◌, ◌*◌, ◌/◌, ◌%◌}
use mathlib.Core.Path.{◌≡◌, refl, sym, ap₂, ◌∙◌}
use mathlib.Core.List.{List, [], ◌∷◌, ◌++◌}
use native.Mathlib.Omega.{arith}
use lib.ListN.{length}
use Rattle.octets.specs.Numbers.{be16}
use Rattle.outsheet.specs.Sheet.{Entry, entry_bytes, bodies, offsets, first_place, sheet_of}
use Rattle.lent.specs.declared.Answer.{Answer}
use Rattle.lent.specs.Served.{Memory}
use Rattle.host.specs.Wrote.{Wrote}

-- two lists that begin with parts of one length
cut : (a b c d : List ℕ) → length a ≡ length b → a ++ c ≡ b ++ d → (a ≡ b) × (c ≡ d)
cut [] [] c d n e = (refl, e)
cut [] (y ∷ b) c d n e = absurd (omega (arith, n))
cut (x ∷ a) [] c d n e = absurd (omega (arith, n))
cut (x ∷ a) (y ∷ b) c d n e =
    let head : x ≡ y = cc in
    let tail : a ++ c ≡ b ++ d = cc in
    let k = cut a b c d (omega (arith, n)) tail in
    (ap₂ (λ (z : ℕ) (l : List ℕ). z ∷ l) head k.0, k.1)

two_bytes : (x y : ℕ) → be16 x ≡ be16 y → x ≡ y
two_bytes x y e =
    let high : x / 256 ≡ y / 256 = cc in
    let low : x % 256 ≡ y % 256 = cc in
    omega (arith, high, low)

length-offsets : (at : ℕ) (es : List Entry) → length (offsets at es) ≡ 2 * length es
unfolding offsets
length-offsets at [] = refl
length-offsets at (e ∷ es) = let k = length-offsets (at + length (entry_bytes e)) es in omega (arith, k)

same_entry : (e f : Entry) → e.row ≡ f.row → e.kind ≡ f.kind → e.bytes ≡ f.bytes → e ≡ f
same_entry e f r k b = λ i. record { row = r i; kind = k i; bytes = b i }

bodies-once : (es fs : List Entry) → length es ≡ length fs → bodies es ≡ bodies fs → es ≡ fs
unfolding bodies entry_bytes
bodies-once [] [] n e = refl
bodies-once [] (f ∷ fs) n e = absurd (omega (arith, n))
bodies-once (e ∷ es) [] n x = absurd (omega (arith, n))
bodies-once (e ∷ es) (f ∷ fs) n x =
    let r : e.row ≡ f.row = cc in
    let k : e.kind ≡ f.kind = cc in
    let l : be16 (length e.bytes) ≡ be16 (length f.bytes) = cc in
    let rest : e.bytes ++ bodies es ≡ f.bytes ++ bodies fs = cc in
    let c = cut e.bytes f.bytes (bodies es) (bodies fs) (two_bytes (length e.bytes) (length f.bytes) l) rest in
    ap₂ (λ (y : Entry) (ys : List Entry). y ∷ ys) (same_entry e f r k c.0) (bodies-once es fs (omega (arith, n)) c.1)

pub sheet-once : (es fs : List Entry) → sheet_of es ≡ sheet_of fs → es ≡ fs
unfolding sheet_of
sheet-once es fs e =
    let n : length es ≡ length fs = two_bytes (length es) (length fs) cc in
    let rest : offsets (first_place (length es)) es ++ bodies es ≡ offsets (first_place (length fs)) fs ++ bodies fs = cc in
    let c =
    cut (offsets (first_place (length es)) es) (offsets (first_place (length fs)) fs) (bodies es) (bodies fs)
    (omega (arith, length-offsets (first_place (length es)) es, length-offsets (first_place (length fs)) fs, n)) rest in
    bodies-once es fs n c.1

-- THE BYTES SETTLE THE ENTRIES that a call wrote
pub wrote-once : (es fs : List Entry) {a : Answer} {before after : Memory} → Wrote es a before after → Wrote fs a before after → es ≡ fs
wrote-once es fs x y =
    sheet-once es fs (cut (sheet_of es) (sheet_of fs) _ _ (sym x.output_length ∙ y.output_length) (sym x.output_is ∙ y.output_is)).0
