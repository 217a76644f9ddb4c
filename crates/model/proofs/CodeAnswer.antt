-- "The answer is the one the rules give at the moment of deciding.": the answer to one head, and its reason.
-- Assumes nothing.
use Prim.Native.Nat.{ℕ}
use mathlib.Core.Path.{◌≡◌, refl, ap, ◌∙◌}
use mathlib.Core.List.{List, [], ◌∷◌, ◌++◌, append_assoc}
use lib.Dec.{eqb, leb}
use borrow.Author.Tests.{leb-true}
use Rattle.kinds.specs.declared.Item.{Item}
use Rattle.kinds.specs.declared.Reply.TheVariants.{Activation}
use Rattle.kinds.specs.declared.Decision.{Decision}
use Rattle.kinds.specs.declared.Decision.TheVariants.{Now, Ask}
use Rattle.kinds.specs.declared.HeadVerdict.{HeadVerdict}
use Rattle.kinds.specs.declared.HeadVerdict.TheVariants.{Pending, Answer, RunOut}
use Rattle.model.specs.FarmSheet.{FarmSheet}
use Rattle.kinds.specs.Clock.{check_limit}
use Rattle.model.specs.Row.{row_at, wanted}
use Rattle.model.specs.Farm.{Farm, Done, and_then, says, closed, closed_where}
use Rattle.model.specs.Line.{accepted, socket_rules, is_silent, all_answered, refusal_of, answered, advanced, verdict_by, head_verdict, serve}
use Rattle.model.specs.Words.{Because, needs_none, all_did, ran_out}
use Rattle.model.proofs.Cases.{pick_case}

-- ---- the verdict and its reason

-- what a verdict says, by its reason
abbrev pub Reason : FarmSheet → Farm → ℕ → HeadVerdict → Type 0
Reason own f head Pending = Unit {0}
Reason own f head (Answer code) = Because own f head code
Reason own f head (RunOut check) = Because own f head accepted

pub verdict_because : (own : FarmSheet) (f : Farm) (head : ℕ) → Reason own f head (head_verdict own f head)
unfolding head_verdict
verdict_because own f head = by (socket_rules own f.rows (wanted (row_at f.rows head))) refl
  where
    by : (d : Decision) → socket_rules own f.rows (wanted (row_at f.rows head)) ≡ d → Reason own f head (verdict_by f d)
    by (Now code) e = needs_none e
    by (Ask check) e =
        pick_case (Reason own f head) (all_answered check f.marks f.rows) (Answer (refusal_of check)) _ (λ t. all_did e t)
        (λ t. pick_case (Reason own f head) (leb check_limit f.clock.ticks) (RunOut check) Pending
        (λ l. ran_out e t (leb-true check_limit f.clock.ticks l)) (λ l. tt))

-- ---- the entry

-- what an answer to the head comes to: its reason as the farm is then, and its entry, with the closings before it and the rest behind it
pub record AnswerIs (own : FarmSheet) (f : Farm) (head : ℕ) (closings : List Item) (d : Done) : Type 0 where
  pub code : ℕ
  pub because : Because own f head code
  pub rest : List Item
  pub entry : d.items ≡ closings ++ says own head (Activation (wanted (row_at f.rows head)) own.entity code) ∷ rest

-- the rows that close before an answer: the silent ones where the check has run out, else none
abbrev pub closings_by : FarmSheet → Farm → HeadVerdict → List Item
closings_by own f Pending = []
closings_by own f (Answer code) = []
closings_by own f (RunOut check) = (closed_where own (is_silent check f.marks) f).items

-- an answer begins with its 0006
pub said : (own : FarmSheet) (head address code : ℕ) (f : Farm)
    → (rest : List Item) × ((answered own head address code f).items ≡ says own head (Activation address own.entity code) ∷ rest)
unfolding answered and_then
said own head address code f =
    pick_case (λ (d : Done). (rest : List Item) × (d.items ≡ says own head (Activation address own.entity code) ∷ rest)) (eqb code accepted) _ _
    (λ e. ([], refl)) (λ e. ((closed own head f).items, refl))

then_says : (own : FarmSheet) (f : Farm) (head : ℕ) (closings : List Item) (d : Done) (g : Farm → Done) → AnswerIs own f head closings d
    → AnswerIs own f head closings (and_then d g)
unfolding and_then
then_says own f head closings d g a =
    record {
      code = a.code;
      because = a.because;
      rest = a.rest ++ (g d.farm).items;
      entry =
          ap (◌++ (g d.farm).items) a.entry
          ∙ append_assoc closings (says own head (Activation (wanted (row_at f.rows head)) own.entity a.code) ∷ a.rest) (g d.farm).items;
    }

-- THE ANSWER: whenever the head of a line is served, it gets one code, the one that the rules give on the farm as it is at that moment:
-- that of the socket rules if they need no check; the refusal of its check if all asked rows have answered; 10 if the clock has come to the
-- limit, after the entries that close the silent rows. Else nothing is done.
pub answer-is : (own : FarmSheet) (head : ℕ) (rest : List ℕ) (f : Farm) (next : Farm → Done)
    → (head_verdict own f head ≡ Pending → ⊥)
    → AnswerIs own f head (closings_by own f (head_verdict own f head)) (serve own head rest f (head_verdict own f head) next)
unfolding and_then
answer-is own head rest f next n = by (head_verdict own f head) n (verdict_because own f head)
  where
    by : (v : HeadVerdict) → (v ≡ Pending → ⊥) → Reason own f head v → AnswerIs own f head (closings_by own f v) (serve own head rest f v next)
    by Pending n r = absurd (n refl)
    by (Answer code) n r =
        let a = said own head (wanted (row_at f.rows head)) code f in
        then_says own f head [] _ next
        (then_says own f head [] _ (advanced own rest) (record { code = code; because = r; rest = a.0; entry = a.1 }))
    by (RunOut check) n r =
        let c : Done = closed_where own (is_silent check f.marks) f in
        let a = said own head (wanted (row_at f.rows head)) accepted c.farm in
        then_says own f head c.items _ next
        (then_says own f head c.items _ (advanced own rest)
        (record { code = accepted; because = r; rest = a.0; entry = ap (c.items ++◌) a.1 }))
