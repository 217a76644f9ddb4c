-- The laws of the sheet: lists of entries that grow at the end, a turn of the loop that writes them, and that the writes make the sheet.
-- Assumes nothing.
use mathlib.Core.Path.{◌≡◌, refl, sym, ap, ◌∙◌}
use mathlib.Core.List.{List, [], ◌∷◌, ◌++◌, append_assoc, append-nil}
use Prim.Native.Nat.{ℕ, ◌+◌, ◌*◌, ◌≤◌, ◌<◌}
use native.Mathlib.Omega.{arith}
use native.Mathlib.Numerals.{add-one}
use lib.ListN.{length, take, drop, get_or, length-append, take-append-drop}
use lib.Seq.{take-suc, take-length, length-take-le}
use Rattle.octets.specs.Numbers.{be16}
use Rattle.octets.specs.Put.{put_at}
use Rattle.octets.proofs.PutLaws.{put-more, put_front, put_start, put_at-none, length-put_at}
use Rattle.outsheet.specs.Sheet.{Entry, entry, entry_bytes, bodies, offsets, first_place, total_of, sheet_of}
use Rattle.outsheet.specs.Contracts.{least_output, Fits, Entered, Laid, Wrote}
use Rattle.outsheet.proofs.SwapLaws.{put_swap}

pub length-entry : (e : Entry) → length (entry_bytes e) ≡ 4 + length e.bytes
unfolding entry_bytes
length-entry e = omega arith

bodies_append : (xs ys : List Entry) → bodies (xs ++ ys) ≡ bodies xs ++ bodies ys
unfolding bodies
bodies_append [] ys = refl
bodies_append (x ∷ xs) ys = ap (λ (l : List ℕ). entry_bytes x ++ l) (bodies_append xs ys) ∙ sym (append_assoc (entry_bytes x) (bodies xs) (bodies ys))

bodies_snoc : (xs : List Entry) (e : Entry) → bodies (xs ++ (e ∷ [])) ≡ bodies xs ++ entry_bytes e
unfolding bodies
bodies_snoc xs e = bodies_append xs (e ∷ []) ∙ ap (λ (l : List ℕ). bodies xs ++ l) (append-nil (entry_bytes e))

offsets_snoc : (at : ℕ) (xs : List Entry) (e : Entry) → offsets at (xs ++ (e ∷ [])) ≡ offsets at xs ++ be16 (at + length (bodies xs))
unfolding offsets bodies
offsets_snoc at [] e = let z : at ≡ at + 0 = omega arith in ap be16 z
offsets_snoc at (x ∷ xs) e =
    let e₁ : at + length (entry_bytes x) + length (bodies xs) ≡ at + length (entry_bytes x ++ bodies xs) =
    omega (arith, length-append (entry_bytes x) (bodies xs))
    in
    ap (λ (l : List ℕ). be16 at ++ l) (offsets_snoc (at + length (entry_bytes x)) xs e)
    ∙ sym (append_assoc (be16 at) (offsets (at + length (entry_bytes x)) xs) (be16 (at + length (entry_bytes x) + length (bodies xs))))
    ∙ ap (λ (n : ℕ). be16 at ++ offsets (at + length (entry_bytes x)) xs ++ be16 n) e₁

length-offsets : (at : ℕ) (xs : List Entry) → length (offsets at xs) ≡ 2 * length xs
unfolding offsets
length-offsets at [] = refl
length-offsets at (x ∷ xs) = omega (arith, length-offsets (at + length (entry_bytes x)) xs)

pub sheet-length : (es : List Entry) → length (sheet_of es) ≡ total_of es
unfolding sheet_of
sheet-length es =
    let at : ℕ = first_place (length es) in
    omega (arith, length-append (offsets at es) (bodies es), length-offsets at es)

-- an entry as the code writes it: four bytes, then its own
pub entered : (row kind n : ℕ) (bs before mid after : List ℕ) (at place next : ℕ) → n ≡ length bs → Fits (entry row kind bs) at (length before)
    → mid ≡ put_at before at (row ∷ kind ∷ be16 n) → place ≡ at + 4 → after ≡ put_at mid place bs → next ≡ at + (4 + n)
    → Entered (entry row kind bs) before after at next
unfolding entry_bytes
entered row kind n bs before mid after at place next long fits em ep ea en =
    record {
      place = en ∙ ap (λ (k : ℕ). at + (4 + k)) long;
      bytes = put-more before at (row ∷ kind ∷ be16 n) mid place bs after em ep (omega (arith, fits.wide)) ea
          ∙ ap (λ (k : ℕ). put_at before at ((row ∷ kind ∷ be16 k) ++ bs)) long;
    }

-- ---- the loop

-- what the buffer holds when i entries and their offsets are in
abbrev pub laid_up_to : List Entry → List ℕ → ℕ → List ℕ
laid_up_to es out i = put_at (put_at out 4 (offsets (first_place (length es)) (take i es))) (first_place (length es)) (bodies (take i es))

-- where the next entry goes
abbrev pub place_of : List Entry → ℕ → ℕ
place_of es i = first_place (length es) + length (bodies (take i es))

-- nothing is in yet
pub none_laid : (es : List Entry) (out : List ℕ) → out ≡ laid_up_to es out 0
unfolding offsets bodies
none_laid es out = put_at-none out 4 ∙ put_at-none (put_at out 4 []) (first_place (length es))

pub first-place : (es : List Entry) → place_of es 0 ≡ first_place (length es)
unfolding bodies
first-place es = omega arith

-- all are in
pub all_laid : (es : List Entry) (out₀ out : List ℕ) (at i : ℕ) → i ≡ length es → at ≡ place_of es i → out ≡ laid_up_to es out₀ i → Laid es out₀ out at
all_laid es out₀ out at i end place e =
    let whole : take i es ≡ es = ap (λ (k : ℕ). take k es) end ∙ take-length es in
    let n : ℕ = first_place (length es) in
    record {
      is = place ∙ ap (λ (l : List Entry). n + length (bodies l)) whole;
      bytes = e ∙ ap (λ (l : List Entry). put_at (put_at out₀ 4 (offsets n l)) n (bodies l)) whole;
    }

-- the turn at entry i
module _ (es : List Entry) (i : ℕ) (d : Entry) (more : i < length es) where
  one_more_lem : take (i + 1) es ≡ take i es ++ (get_or es i d ∷ [])
  one_more_lem = ap (λ (k : ℕ). take k es) (add-one i) ∙ take-suc es i d more

  pub next_place : place_of es (i + 1) ≡ place_of es i + (4 + length (get_or es i d).bytes)
  next_place =
      let e = ap (λ (l : List Entry). length (bodies l)) one_more_lem in
      let f = ap length (bodies_snoc (take i es) (get_or es i d)) in
      omega (arith, e, f, length-append (bodies (take i es)) (entry_bytes (get_or es i d)), length-entry (get_or es i d))

  pub turn_fits : place_of es i + (4 + length (get_or es i d).bytes) ≤ total_of es
  turn_fits =
      let e = ap (λ (l : List Entry). length (bodies l)) (take-append-drop (i + 1) es) in
      let f = ap length (bodies_append (take (i + 1) es) (drop (i + 1) es)) in
      omega (arith, next_place, e, f, length-append (bodies (take (i + 1) es)) (bodies (drop (i + 1) es)))

  pub entry-fits : (e : Entry) (at n : ℕ) → total_of es ≤ least_output → least_output ≤ n → at ≡ place_of es i → e ≡ get_or es i d → Fits e at n
  entry-fits e at n short wide place same =
      let k = ap (λ (x : Entry). length x.bytes) same in
      record { small = omega (arith, turn_fits, k); wide = omega (arith, turn_fits, k) }

  pub turn : (out₀ out out₁ out₂ : List ℕ) (at : ℕ) → total_of es ≤ length out₀ → at ≡ place_of es i
      → out ≡ laid_up_to es out₀ i
      → out₁ ≡ put_at out (4 + 2 * i) (be16 at)
      → out₂ ≡ put_at out₁ at (entry_bytes (get_or es i d))
      → out₂ ≡ laid_up_to es out₀ (i + 1)
  turn out₀ out out₁ out₂ at wide place e₀ e₁ e₂ =
      let n : ℕ = first_place (length es) in
      let o : List ℕ = offsets n (take i es) in
      let b : List ℕ = bodies (take i es) in
      let x : List ℕ = be16 at in
      let y : List ℕ = entry_bytes (get_or es i d) in
      let fit : at + length y ≤ length out₀ = omega (arith, turn_fits, length-entry (get_or es i d)) in
      let long-o : length o ≡ 2 * i = omega (arith, length-offsets n (take i es), length-take-le i es (omega arith)) in
      let long_x : length (o ++ x) ≡ 2 * i + 2 = omega (arith, length-append o x) in
      let end : 4 + length o ≡ 4 + 2 * i = omega arith in
      let w₁ : length (put_at out₀ 4 o) ≡ length out₀ = length-put_at out₀ 4 o (omega arith) in
      let w₂ : length (put_at out₀ 4 (o ++ x)) ≡ length out₀ = length-put_at out₀ 4 (o ++ x) (omega arith) in
      let first : out₁ ≡ put_at (put_at out₀ 4 (o ++ x)) n b =
      e₁
      ∙ ap (λ (l : List ℕ). put_at l (4 + 2 * i) x) e₀
      ∙ put_swap (put_at out₀ 4 o) n b (4 + 2 * i) x (omega arith) (omega arith)
      ∙ ap (λ (l : List ℕ). put_at l n b) (put-more out₀ 4 o (put_at out₀ 4 o) (4 + 2 * i) x (put_at (put_at out₀ 4 o) (4 + 2 * i) x) refl (sym end) (omega arith) refl)
      in
      put-more (put_at out₀ 4 (o ++ x)) n b out₁ at y out₂ first place (omega arith) e₂
      ∙ ap (λ (l : List ℕ). put_at (put_at out₀ 4 l) n (b ++ y))
      (ap (λ (k : ℕ). o ++ be16 k) place ∙ sym (offsets_snoc n (take i es) (get_or es i d)) ∙ ap (offsets n) (sym one_more_lem))
      ∙ ap (put_at (put_at out₀ 4 (offsets n (take (i + 1) es))) n) (sym (bodies_snoc (take i es) (get_or es i d)) ∙ ap bodies (sym one_more_lem))

-- ---- the whole

-- the head, written last, makes the sheet
pub wrote-sheet : (es : List Entry) (out₀ out out₁ : List ℕ) (total : ℕ) → total_of es ≤ length out₀
    → Laid es out₀ out total
    → out₁ ≡ put_at out 0 (be16 (length es) ++ be16 total)
    → Wrote (sheet_of es) out₀ out₁ total
unfolding sheet_of
wrote-sheet es out₀ out out₁ total wide laid e =
    let n : ℕ = first_place (length es) in
    let o : List ℕ = offsets n es in
    let h : List ℕ = be16 (length es) ++ be16 (total_of es) in
    let long-o : length o ≡ 2 * length es = length-offsets n es in
    let body : out ≡ put_at out₀ 4 (o ++ bodies es) =
    put-more out₀ 4 o (put_at out₀ 4 o) n (bodies es) out refl (omega arith) (omega arith) laid.bytes
    in
    record {
      is = laid.is ∙ sym (sheet-length es);
      bytes = e
          ∙ ap (λ (t : ℕ). put_at out 0 (be16 (length es) ++ be16 t)) laid.is
          ∙ ap (λ (l : List ℕ). put_at l 0 h) body
          ∙ put_front out₀ 0 h (o ++ bodies es) (omega (arith, length-append o (bodies es)))
          ∙ put_start out₀ (h ++ (o ++ bodies es));
    }

-- what `write_sheet` promises settles its answer and every byte
pub wrote_one : {sheet before a b : List ℕ} {m n : ℕ} → Wrote sheet before a m → Wrote sheet before b n → (m ≡ n) × (a ≡ b)
wrote_one v w = (v.is ∙ sym w.is, v.bytes ∙ sym w.bytes)
