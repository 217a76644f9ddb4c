-- `put_entry` meets its contract: each arm writes the bytes of its reply (`ArmLaws`).
-- Assumes nothing.
use Rattle.entry_writer.proofs.ArmLaws.{arm}
use Rattle.entry_writer.proofs.put_entry.Goals as goal

pub returns-in-Status : goal.returns-in-Status
returns-in-Status c =
    let a = c.args in
    arm a.long.now a.it _ _ c.in-Status.is c.status.ensures a.out.now _ a.at _ c.put_bytes-in-Status.ensures

pub returns-in-Ack : goal.returns-in-Ack
returns-in-Ack c =
    let a = c.args in
    arm a.long.now a.it _ _ c.in-Ack.is c.ack.ensures a.out.now _ a.at _ c.put_bytes-in-Ack.ensures

pub returns-in-DiagnosticNack : goal.returns-in-DiagnosticNack
returns-in-DiagnosticNack c =
    let a = c.args in
    arm a.long.now a.it _ _ c.in-DiagnosticNack.is c.diagnostic_nack.ensures a.out.now _ a.at _ c.put_bytes-in-DiagnosticNack.ensures
