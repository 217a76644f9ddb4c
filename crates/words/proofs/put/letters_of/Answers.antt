-- `put::letters_of` meets its contract.
-- Assumes nothing.
use Rattle.std.proofs.Common.{◌≡◌, ℕ, List, length, take, ap, ◌∙◌, arith}
use lib.Seq.{take-length}
use Rattle.octets.specs.Put.{put_at}
use Rattle.octets.proofs.SaysLaws.{refuted}
use Rattle.octets.proofs.PutLaws.{put_at-none}
use Rattle.words.specs.Said.{letters}
use Rattle.words.proofs.SaidLaws.{said-none, said_all, length-letters, letters_turn}
use Rattle.words.proofs.put.letters_of.Goals as goal

pub returns-then-not-has_room : goal.returns-then-not-has_room
returns-then-not-has_room c = said-none (λ h. refuted c.has_room.ensures c.if-not-has_room.true (omega (arith, h, length-letters c.args.b.now)))

pub loop-j-init : goal.loop-j-init
unfolding letters
loop-j-init c = put_at-none c.args.out.now c.args.at

pub loop-j-preserved : goal.loop-j-preserved
loop-j-preserved c =
    let l = c.loop-j in
    letters_turn c.args.b.now c.args.out.now l.out c.args.at l.j c.shown.result l.invariant c.loop-j-test.true
    (c.has_room.ensures.right c.if-not-has_room.false) c.shown.ensures

pub returns : goal.returns
returns c =
    let b = c.args.b.now in
    let l = c.loop-j in
    let fits = c.has_room.ensures.right c.if-not-has_room.false in
    let all : l.j ≡ length b = omega arith in
    said_all (omega (arith, fits, length-letters b))
    (record {
      put = l.invariant ∙ ap (λ (x : List ℕ). put_at c.args.out.now c.args.at (letters x)) (ap (λ (k : ℕ). take k b) all ∙ take-length b);
      after = omega (arith, length-letters b);
    })
    l.auto.out
