use Rattle.ak_link.proofs.Retries.{Tried}
use Rattle.ak_link.proofs.calls.receive.Given as goal

-- as many calls as the loop has made passed
abbrev pub invariant-tries : goal.invariant-tries
invariant-tries g l = Tried g.S.Datagrams.receives l.initial.socket l.counter l.socket
