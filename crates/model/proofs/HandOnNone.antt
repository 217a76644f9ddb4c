-- What closings, answers, checks and settling do not say; so they hand nothing on.
-- Assumes nothing.
use Prim.Native.Nat.{ℕ, zero, suc, ◌+◌}
use mathlib.Core.Path.{◌≡◌, refl, ap}
use mathlib.Core.Bool.{Bool, false}
use mathlib.Core.List.{List, [], ◌∷◌, ◌++◌}
use native.Mathlib.Omega.{arith}
use lib.Dec.{eqb}
use Rattle.octets.specs.Choice.{one}
use Rattle.octets.specs.Search.{count_if}
use Rattle.octets.specs.Fold.{up_to}
use Rattle.kinds.specs.declared.Decision.{Decision}
use Rattle.kinds.specs.declared.Decision.TheVariants.{Now, Ask}
use Rattle.kinds.specs.declared.HeadVerdict.{HeadVerdict}
use Rattle.kinds.specs.declared.HeadVerdict.TheVariants.{Pending, Answer, RunOut}
use Rattle.kinds.specs.declared.Item.{Item}
use Rattle.kinds.specs.declared.Reply.{Reply}
use Rattle.kinds.specs.declared.Reply.TheVariants.{Activation, AliveCheck, Close}
use Rattle.kinds.specs.declared.Request.{Request}
use Rattle.kinds.specs.declared.Row.{Row}
use Rattle.model.specs.FarmSheet.{FarmSheet}
use Rattle.model.specs.Row.{row_at, wanted, waiting_row}
use Rattle.model.specs.Farm.{Farm, Done, quietly, and_then, each_seat, seat_count, with_row, with_line, says, closed, closed_if, closed_where}
use Rattle.model.specs.Line.{accepted, socket_rules, asks, asked_if, asking, cleared, started_by, started, advanced, answered, is_silent, head_verdict, serve, settle_line, settle, is_empty, joined, left_by, left}
use Rattle.model.specs.HandsOn.{is_hand_on}
use Rattle.model.proofs.Cases.{pick_case}
use Rattle.model.proofs.Seats.{seats_to}

-- how many entries say such a reply
abbrev pub said : (Reply → Bool) → List Item → ℕ
said p items = count_if (λ (it : Item). p it.reply) items

-- none does
abbrev pub None : (Reply → Bool) → Done → Type 0
None p d = said p d.items ≡ 0

module _ (p : Reply → Bool) where
  pub said_append : (xs ys : List Item) → said p (xs ++ ys) ≡ said p xs + said p ys
  unfolding count_if
  said_append [] ys = omega arith
  said_append (x ∷ xs) ys = omega (arith, said_append xs ys)

  pub none_quiet : said p [] ≡ 0
  unfolding count_if
  none_quiet = refl

  -- one entry that says something else
  pub none-one : (it : Item) → p it.reply ≡ false → said p (it ∷ []) ≡ 0
  unfolding count_if
  none-one it e = let z : one (p it.reply) ≡ 0 = ap one e in omega arith

  pub none_then : (d : Done) (g : Farm → Done) → None p d → None p (g d.farm) → None p (and_then d g)
  unfolding and_then
  none_then d g a b = omega (arith, said_append d.items (g d.farm).items)

  none-seats : (g : ℕ → Farm → Done) (f : Farm) → ((i : ℕ) (x : Farm) → None p (g i x)) → (n : ℕ) → None p (seats_to g f n)
  unfolding seats_to up_to
  none-seats g f k zero = none_quiet
  none-seats g f k (suc n) = none_then (seats_to g f n) (g n) (none-seats g f k n) (k n (seats_to g f n).farm)

  pub none_each : (g : ℕ → Farm → Done) (f : Farm) → ((i : ℕ) (x : Farm) → None p (g i x)) → None p (each_seat g f)
  unfolding each_seat seats_to
  none_each g f k = none-seats g f k seat_count

-- ---- a check that starts says 0007 and nothing else

module _ (p : Reply → Bool) (alive : p AliveCheck ≡ false) (own : FarmSheet) where
  none-asking : (d : Decision) (f : Farm) → None p (asking own d f)
  unfolding asked_if
  none-asking (Now code) f = none_quiet p
  none-asking (Ask check) f =
      none_each p (asked_if own check) f
      (λ i x. pick_case (None p) (asks check i (row_at x.rows i)) _ _ (λ e. none-one p (says own i AliveCheck) alive) (λ e. none_quiet p))

  pub none-started : (f : Farm) → None p (started own f)
  unfolding started
  none-started f = go f.line
    where
      go : (line : List ℕ) → None p (started_by own line f)
      go [] = none_quiet p
      go (head ∷ rest) = none-asking (socket_rules own f.rows (wanted (row_at f.rows head))) (cleared f)

  pub none-advanced : (rest : List ℕ) (f : Farm) → None p (advanced own rest f)
  unfolding advanced
  none-advanced rest f = none-started (with_line f rest)

  pub none-joined : (seat : ℕ) (q : Request) (f : Farm) → None p (joined own seat q f)
  unfolding joined
  none-joined seat q f =
      pick_case (None p) (is_empty f.line) _ _ (λ e. none-started (with_line (with_row f seat (waiting_row q)) (f.line ++ (seat ∷ [])))) (λ e. none_quiet p)

  pub none_left : (seat : ℕ) (f : Farm) → None p (left own seat f)
  unfolding left
  none_left seat f = go f.line
    where
      go : (line : List ℕ) → None p (left_by own seat line f)
      go [] = none_quiet p
      go (head ∷ rest) = pick_case (None p) (eqb seat head) _ _ (λ e. none-advanced rest f) (λ e. none_quiet p)

-- ---- a closing says that it closes

module _ (p : Reply → Bool) (close : p Close ≡ false) (own : FarmSheet) where
  pub none-closed : (seat : ℕ) (f : Farm) → None p (closed own seat f)
  unfolding closed
  none-closed seat f = none-one p (says own seat Close) close

  pub none_closings : (test : ℕ → Row → Bool) (f : Farm) → None p (closed_where own test f)
  unfolding closed_if
  none_closings test f =
      none_each p (closed_if own test) f
      (λ i x. pick_case (None p) (test i (row_at x.rows i)) (closed own i x) (quietly x) (λ e. none-closed i x) (λ e. none_quiet p))

-- ---- settling says 0006, 0007 and closings

module _ (p : Reply → Bool) (alive : p AliveCheck ≡ false) (close : p Close ≡ false) (activation : (a e c : ℕ) → p (Activation a e c) ≡ false) (own : FarmSheet) where
  pub none-answered : (seat address code : ℕ) (f : Farm) → None p (answered own seat address code f)
  unfolding answered
  none-answered seat address code f =
      pick_case (None p) (eqb code accepted) _ _ (λ e. none-one p (says own seat (Activation address own.entity code)) (activation address own.entity code))
      (λ e.
      none_then p _ _ (none-one p (says own seat (Activation address own.entity code)) (activation address own.entity code))
      (none-closed p close own seat f))

  none-serve : (head : ℕ) (rest : List ℕ) (f : Farm) (v : HeadVerdict) (next : Farm → Done) → ((g : Farm) → None p (next g)) → None p (serve own head rest f v next)
  none-serve head rest f Pending next k = none_quiet p
  none-serve head rest f (Answer code) next k =
      none_then p _ next
      (none_then p _ (advanced own rest) (none-answered head (wanted (row_at f.rows head)) code f) (none-advanced p alive own rest _)) (k _)
  none-serve head rest f (RunOut check) next k =
      none_then p _ next
      (none_then p _ (advanced own rest)
      (none_then p _ _ (none_closings p close own (is_silent check f.marks) f) (none-answered head (wanted (row_at f.rows head)) accepted _))
      (none-advanced p alive own rest _))
      (k _)

  none_settled : (line : List ℕ) (f : Farm) → None p (settle_line own line f)
  unfolding settle_line
  none_settled [] f = none_quiet p
  none_settled (head ∷ rest) f = none-serve head rest f (head_verdict own f head) (settle_line own rest) (λ g. none_settled rest g)

  pub none-settle : (f : Farm) → None p (settle own f)
  none-settle f = none_settled f.line f

-- ---- hand-ons

-- nothing is handed on
abbrev pub NoHandOn : Done → Type 0
NoHandOn d = None is_hand_on d

module _ (own : FarmSheet) where
  pub settle-hands-none : (f : Farm) → NoHandOn (settle own f)
  settle-hands-none f = none-settle is_hand_on refl refl (λ a e c. refl) own f

  pub answered-hands-none : (seat address code : ℕ) (f : Farm) → NoHandOn (answered own seat address code f)
  answered-hands-none seat address code f = none-answered is_hand_on refl refl (λ a e c. refl) own seat address code f
