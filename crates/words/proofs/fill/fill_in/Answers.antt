-- `fill::fill_in` meets its contract.
-- Assumes nothing.
use Rattle.std.proofs.Common.{ℕ, List, ◌++◌, refl, ap, ◌∙◌, get_or, take, map, arith}
use lib.Seq.{length-take-le}
use Rattle.words.specs.Book.{fill}
use Rattle.words.specs.Sentence.{arg_text, one_text}
use Rattle.words.proofs.SaidLaws.{said-is, said_more, said-nothing}
use Rattle.words.proofs.FillLaws.{holes, holes_short, fill_turn, hole_turn, letter_turn}
use Rattle.words.proofs.fill.fill_in.Goals as goal
use Rattle.words.proofs.fill.fill_in.Goals.{then-c-eq-HOLE, else-c-eq-HOLE}

pub loop-c-init : goal.loop-c-init
unfolding fill holes
loop-c-init c = record { said = said-nothing; filled = refl }

pub overflow_add-filled : goal.overflow_add-filled
overflow_add-filled c =
    let t = c.args.t.now in
    let i = c.loop-c.c-index in
    omega (arith, c.loop-c.invariant.filled, holes_short (take i t), length-take-le i t (omega arith), c.requires)

pub loop-c-preserved : goal.loop-c-preserved
loop-c-preserved c =
    let t = c.args.t.now in
    let ts : List (List ℕ) = map arg_text c.args.args.now in
    let i = c.loop-c.c-index in
    let so_far = c.loop-c.invariant in
    record {
      said =
          said-is
          (ap (λ (n : ℕ). fill (take i t) ts ++ one_text (get_or t i 0) n ts) so_far.filled ∙ fill_turn t ts i c.loop-c-test.true)
          (said_more so_far.said c.put_one-p.ensures);
      filled =
          elim c.if-c-eq-HOLE.branch [
            | then-c-eq-HOLE w ↦
                w.filled-is ∙ hole_turn t i c.loop-c-test.true so_far.filled w.if-c-eq-HOLE.true
            | else-c-eq-HOLE w ↦ w.filled-is ∙ letter_turn t i c.loop-c-test.true so_far.filled w.if-c-eq-HOLE.false
          ];
    }
