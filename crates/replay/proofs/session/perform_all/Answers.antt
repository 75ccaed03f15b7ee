-- `replay::session::perform_all` is safe and ends: the bytes of a call that was read lie in the script.
use Rattle.replay.proofs.Calls.{call_bytes}
use Rattle.replay.proofs.session.perform_all.Goals as goal

pub take_units-n-requires-clause-call_bytes : goal.take_units-n-requires-clause-call_bytes
take_units-n-requires-clause-call_bytes g c = call_bytes c.read_call.ensures (rw c.in-Some-Call.field-0-is at c.in-Some-Call.is) c.loop-at-test.true
