-- `records::next_at` meets its contract: the fixed fields of a record that was read are among its bytes.
-- Assumes nothing.
use Rattle.std.proofs.Common.{◌≡◌, ℕ, ◌+◌, ◌-◌, ◌≤◌, List, Some, length, arith, rules}
use Rattle.octets.specs.Parts.{part}
use Rattle.octets.proofs.PartsLaws.{length_part}
use Rattle.day.specs.declared.records.Record.{Record}
use Rattle.day.specs.Records.{fixed_of}
use Rattle.day.specs.Next.{next_of, RoomsFit}
use Rattle.day.proofs.records.next_at.Goals as goal

pub returns : goal.returns
unfolding next_of
returns c =
    let s : List ℕ = c.args.s.now in
    let start : ℕ = c.args.at + 2 in
    let n : ℕ = c.read16-n.result in
    let r : Record = c.in_ok-record.record in
    let got : c.record_in.result ≡ Some r = search rules in
    let long : length (part s start (start + n - start)) ≡ n = omega (arith, length_part s start (start + n - start) (omega arith)) in
    let among : (fixed_of r ≤ length (part s start (start + n - start)) - 1) × RoomsFit r = rw got at c.record_in.ensures.among in
    (search rules, (omega arith, omega arith, omega arith, omega arith, among.1))
