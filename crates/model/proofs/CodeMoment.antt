-- Every response 0006 that settling sends is the answer of a moment of that settling.
-- Assumes nothing.
use Prim.Native.Nat.{ℕ, zero, suc}
use mathlib.Core.Path.{◌≡◌, refl, sym, subst, ◌∙◌}
use mathlib.Core.Bool.{Bool}
use mathlib.Core.Logic.{⊎_elim}
use mathlib.Core.List.Memᴰ
use mathlib.Core.List.{List, [], ◌∷◌, ◌++◌, Memᴰ}
use native.Mathlib.Omega.{arith}
use lib.Dec.{eqb}
use Rattle.kinds.specs.declared.Item.{Item}
use Rattle.kinds.specs.declared.Reply.TheVariants.{Activation, Close, AliveCheck}
use Rattle.kinds.specs.declared.Row.{Row}
use Rattle.kinds.specs.declared.Decision.{Decision}
use Rattle.kinds.specs.declared.Decision.TheVariants.{Now, Ask}
use Rattle.kinds.specs.declared.HeadVerdict.{HeadVerdict}
use Rattle.kinds.specs.declared.HeadVerdict.TheVariants.{Pending, Answer, RunOut}
use Rattle.model.specs.FarmSheet.{FarmSheet}
use Rattle.model.specs.Row.{row_at, wanted}
use Rattle.model.specs.Farm.{Farm, Done, does, quietly, and_then, each_seat, seat_count, with_line, says, closed, closed_if, closed_where}
use Rattle.model.specs.Line.{accepted, socket_rules, asks, is_silent, asked_if, asking, cleared, started_by, started, advanced, answered, head_verdict, serve, settle_line}
use Rattle.model.specs.Words.{Because, Moment, this_head, next_head, AnswerAt}
use Rattle.model.proofs.Cases.{pick_case}
use Rattle.model.proofs.Seats.{seats_to, seats-suc, seats-all, seats-zero}
use Rattle.model.proofs.CodeAnswer.{Reason, verdict_because}

-- ---- what holds of each entry

abbrev pub Each : (Item → Type 0) → List Item → Type 0
Each Q items = (it : Item) → Memᴰ it items → Q it

pub none_each : (Q : Item → Type 0) → Each Q []
none_each Q it m = absurd (Memᴰ.not-nil m)

pub one_each : (Q : Item → Type 0) (x : Item) → Q x → Each Q (x ∷ [])
one_each Q x q it m = subst Q (sym (Memᴰ.eq_of_singleton m)) q

pub append_each : (Q : Item → Type 0) (l k : List Item) → Each Q l → Each Q k → Each Q (l ++ k)
append_each Q l k a b it m = ⊎_elim (a it) (b it) (Memᴰ.append_cases l m)

pub then_each : (Q : Item → Type 0) (d : Done) (g : Farm → Done) → Each Q d.items → Each Q (g d.farm).items → Each Q (and_then d g).items
unfolding and_then
then_each Q d g a b = append_each Q d.items (g d.farm).items a b

pub each_seat_lem : (Q : Item → Type 0) (g : ℕ → Farm → Done) (f : Farm) → ((i : ℕ) (x : Farm) → Each Q (g i x).items) → Each Q (each_seat g f).items
each_seat_lem Q g f k = rw (seats-all g f) (to seat_count)
  where
    to : (n : ℕ) → Each Q (seats_to g f n).items
    to zero = rw (seats-zero g f) (none_each Q)
    to (suc n) = rw (seats-suc g f n) (then_each Q (seats_to g f n) (g n) (to n) (k n (seats_to g f n).farm))

-- ---- entries that are no answers

abbrev pub Plain : Item → Type 0
Plain it = (a e c : ℕ) → it.reply ≡ Activation a e c → ⊥

close-plain : (own : FarmSheet) (i : ℕ) → Plain (says own i Close)
close-plain own i a e c p = let z : ◌≡◌ {A = ℕ} 0 1 = cc in omega arith

check-plain : (own : FarmSheet) (i : ℕ) → Plain (says own i AliveCheck)
check-plain own i a e c p = let z : ◌≡◌ {A = ℕ} 0 1 = cc in omega arith

pub closed-plain : (own : FarmSheet) (i : ℕ) (f : Farm) → Each Plain (closed own i f).items
unfolding closed
closed-plain own i f = one_each Plain (says own i Close) (close-plain own i)

pub closings_plain : (own : FarmSheet) (test : ℕ → Row → Bool) (f : Farm) → Each Plain (closed_where own test f).items
unfolding closed_if
closings_plain own test f =
    each_seat_lem Plain (closed_if own test) f
    (λ i x. pick_case (λ (d : Done). Each Plain d.items) (test i (row_at x.rows i)) (closed own i x) (quietly x) (λ _. closed-plain own i x)
    (λ _. none_each Plain))

asking-plain : (own : FarmSheet) (d : Decision) (f : Farm) → Each Plain (asking own d f).items
unfolding asked_if
asking-plain own (Now code) f = none_each Plain
asking-plain own (Ask check) f =
    each_seat_lem Plain (asked_if own check) f
    (λ i x. pick_case (λ (d : Done). Each Plain d.items) (asks check i (row_at x.rows i)) (does x (says own i AliveCheck ∷ [])) (quietly x)
    (λ _. one_each Plain (says own i AliveCheck) (check-plain own i)) (λ _. none_each Plain))

pub started-plain : (own : FarmSheet) (f : Farm) → Each Plain (started own f).items
unfolding started
started-plain own f = by f.line
  where
    by : (line : List ℕ) → Each Plain (started_by own line f).items
    by [] = none_each Plain
    by (head ∷ rest) = asking-plain own (socket_rules own f.rows (wanted (row_at f.rows head))) (cleared f)

pub advanced-plain : (own : FarmSheet) (rest : List ℕ) (f : Farm) → Each Plain (advanced own rest f).items
unfolding advanced
advanced-plain own rest f = started-plain own (with_line f rest)

-- ---- the answers of a settling

-- an entry that is a response 0006 is such an answer
abbrev pub Told : FarmSheet → List ℕ → Farm → Item → Type 0
Told own line f it = (a e c : ℕ) → it.reply ≡ Activation a e c → AnswerAt own line f it

pub plain_told : {own : FarmSheet} {line : List ℕ} {f : Farm} (items : List Item) → Each Plain items → Each (Told own line f) items
plain_told items k it m a e c p = absurd (k it m a e c p)

module _ (own : FarmSheet) (head : ℕ) (rest : List ℕ) (f : Farm) where
  -- the answer itself, whatever the farm that it is given on has become by the closings
  answered_told : (code : ℕ) (g : Farm) → Because own f head code
      → Each (Told own (head ∷ rest) f) (answered own head (wanted (row_at f.rows head)) code g).items
  unfolding answered
  answered_told code g b =
      pick_case (λ (d : Done). Each (Told own (head ∷ rest) f) d.items) (eqb code accepted) _ _ (λ _. first)
      (λ _. then_each (Told own (head ∷ rest) f) _ (closed own head) first (plain_told _ (closed-plain own head g)))
    where
      first : Each (Told own (head ∷ rest) f) (says own head (Activation (wanted (row_at f.rows head)) own.entity code) ∷ [])
      first =
          one_each (Told own (head ∷ rest) f) _
          (λ a e c p. record { head = head; moment = f; reached = this_head; code = code; because = b; is_entry = refl })

  later_told : (v : HeadVerdict) → head_verdict own f head ≡ v → (v ≡ Pending → ⊥) → (items : List Item)
      → Each (Told own rest (serve own head rest f v quietly).farm) items → Each (Told own (head ∷ rest) f) items
  later_told v e n items k it m a b c p =
      let x = k it m a b c p in
      record {
        head = x.head;
        moment = x.moment;
        reached =
            next_head (λ q. n (sym e ∙ q))
            (subst (λ (u : HeadVerdict). Moment own rest (serve own head rest f u quietly).farm x.head x.moment) (sym e) x.reached);
        code = x.code;
        because = x.because;
        is_entry = x.is_entry;
      }

  serve_told : (next : Farm → Done) → ((g : Farm) → Each (Told own rest g) (next g).items)
      → Each (Told own (head ∷ rest) f) (serve own head rest f (head_verdict own f head) next).items
  unfolding and_then
  serve_told next ih = by (head_verdict own f head) refl (verdict_because own f head)
    where
      by : (v : HeadVerdict) → head_verdict own f head ≡ v → Reason own f head v
          → Each (Told own (head ∷ rest) f) (serve own head rest f v next).items
      by Pending e r = none_each (Told own (head ∷ rest) f)
      by (Answer code) e r =
          let d : Done = answered own head (wanted (row_at f.rows head)) code f in
          then_each (Told own (head ∷ rest) f) (and_then d (advanced own rest)) next
          (then_each (Told own (head ∷ rest) f) d (advanced own rest) (answered_told code f r) (plain_told _ (advanced-plain own rest d.farm)))
          (later_told (Answer code) e (λ q. let z : ◌≡◌ {A = ℕ} 0 1 = cc in omega arith) _ (ih (advanced own rest d.farm).farm))
      by (RunOut check) e r =
          let x : Done = closed_where own (is_silent check f.marks) f in
          let d : Done = and_then x (answered own head (wanted (row_at f.rows head)) accepted) in
          then_each (Told own (head ∷ rest) f) (and_then d (advanced own rest)) next
          (then_each (Told own (head ∷ rest) f) d (advanced own rest)
          (then_each (Told own (head ∷ rest) f) x (answered own head (wanted (row_at f.rows head)) accepted)
          (plain_told _ (closings_plain own (is_silent check f.marks) f)) (answered_told accepted x.farm r))
          (plain_told _ (advanced-plain own rest d.farm)))
          (later_told (RunOut check) e (λ q. let z : ◌≡◌ {A = ℕ} 0 1 = cc in omega arith) _ (ih (advanced own rest d.farm).farm))

-- EVERY ANSWER OF A SETTLING: each response 0006 among its entries is the answer to the head of the line at some moment of it, with the code
-- that the rules give on the farm as it is at that moment, to the address that the head then asks for.
pub settle_told : (own : FarmSheet) (line : List ℕ) (f : Farm) → Each (Told own line f) (settle_line own line f).items
unfolding settle_line
settle_told own [] f = none_each (Told own [] f)
settle_told own (head ∷ rest) f = serve_told own head rest f (settle_line own rest) (λ g. settle_told own rest g)
