use Rattle.std.proofs.Common.{arith, inl}
use Rattle.ak_options.specs.declared.command.Command.TheVariants.{Replay, Sweep, Node, Ctl}
use Rattle.ak_turns.specs.Outside.{sink, wire}
use Rattle.ak_driver.specs.StatusContracts.{Swept, RanNode, Asked}
use Rattle.ak_driver.proofs.AskedCommands.{none_asked, none_swept, none_runs, none_asks, answered, same_kind, no_replay, swept_so, ran_so, asked_so, texts_no_replay, texts_no_sweep, texts_some}
use Rattle.ak_driver.proofs.RunLemmas.{no_texts_node, no_texts_control}
use Rattle.ak_driver.proofs.run_words.Goals as goal

pub returns-in-Ok-None-clause-replay : goal.returns-in-Ok-None-clause-replay
returns-in-Ok-None-clause-replay g c =
    λ asks. absurd (none_asked c.args.words.now c.in-Ok-None.field-0 c.in-Ok-None.ensures c.in-Ok-None.field-0-is asks)

pub returns-in-Ok-None-clause-promise : goal.returns-in-Ok-None-clause-promise
returns-in-Ok-None-clause-promise g c =
    λ asks. absurd (none_asked c.args.words.now c.in-Ok-None.field-0 c.in-Ok-None.ensures c.in-Ok-None.field-0-is asks)

pub returns-in-Ok-None-clause-headline : goal.returns-in-Ok-None-clause-headline
returns-in-Ok-None-clause-headline g c =
    λ asks. absurd (none_asked c.args.words.now c.in-Ok-None.field-0 c.in-Ok-None.ensures c.in-Ok-None.field-0-is asks)

pub returns-in-Ok-None-clause-complete : goal.returns-in-Ok-None-clause-complete
returns-in-Ok-None-clause-complete g c =
    λ asks. absurd (none_asked c.args.words.now c.in-Ok-None.field-0 c.in-Ok-None.ensures c.in-Ok-None.field-0-is asks)

pub returns-in-Ok-None-clause-sweep : goal.returns-in-Ok-None-clause-sweep
returns-in-Ok-None-clause-sweep g c =
    λ first count events workers asks. absurd (none_swept c.args.words.now c.in-Ok-None.field-0 c.in-Ok-None.ensures c.in-Ok-None.field-0-is first count events workers asks)

pub returns-in-Ok-None-clause-node : goal.returns-in-Ok-None-clause-node
returns-in-Ok-None-clause-node g c =
    λ config ticks asks. absurd (none_runs c.args.words.now c.in-Ok-None.field-0 c.in-Ok-None.ensures c.in-Ok-None.field-0-is config ticks asks)

pub returns-in-Ok-None-clause-control : goal.returns-in-Ok-None-clause-control
returns-in-Ok-None-clause-control g c =
    λ to say asks. absurd (none_asks c.args.words.now c.in-Ok-None.field-0 c.in-Ok-None.ensures c.in-Ok-None.field-0-is to say asks)

pub returns-in-Ok-Some-Replay-clause-sweep : goal.returns-in-Ok-Some-Replay-clause-sweep
returns-in-Ok-Some-Replay-clause-sweep g c =
    λ first count events workers asks. absurd (let e = same_kind c.args.words.now Replay (Sweep first count events workers) (answered c.args.words.now c.in-Ok-Some-Replay.field-0 c.in-Ok-Some-Replay.field-0-0 Replay c.in-Ok-Some-Replay.ensures c.in-Ok-Some-Replay.field-0-is c.in-Ok-Some-Replay.field-0-0-is) asks in omega (arith, e))

pub returns-in-Ok-Some-Replay-clause-node : goal.returns-in-Ok-Some-Replay-clause-node
returns-in-Ok-Some-Replay-clause-node g c =
    λ config ticks asks. absurd (let e = same_kind c.args.words.now Replay (Node config ticks) (answered c.args.words.now c.in-Ok-Some-Replay.field-0 c.in-Ok-Some-Replay.field-0-0 Replay c.in-Ok-Some-Replay.ensures c.in-Ok-Some-Replay.field-0-is c.in-Ok-Some-Replay.field-0-0-is) asks in omega (arith, e))

pub returns-in-Ok-Some-Replay-clause-control : goal.returns-in-Ok-Some-Replay-clause-control
returns-in-Ok-Some-Replay-clause-control g c =
    λ to say asks. absurd (let e = same_kind c.args.words.now Replay (Ctl to say) (answered c.args.words.now c.in-Ok-Some-Replay.field-0 c.in-Ok-Some-Replay.field-0-0 Replay c.in-Ok-Some-Replay.ensures c.in-Ok-Some-Replay.field-0-is c.in-Ok-Some-Replay.field-0-0-is) asks in omega (arith, e))

pub returns-in-Ok-Some-Sweep-clause-node : goal.returns-in-Ok-Some-Sweep-clause-node
returns-in-Ok-Some-Sweep-clause-node g c =
    λ config ticks asks. absurd (let e = same_kind c.args.words.now (Sweep c.in-Ok-Some-Sweep.first c.in-Ok-Some-Sweep.count c.in-Ok-Some-Sweep.events c.in-Ok-Some-Sweep.workers) (Node config ticks) (answered c.args.words.now c.in-Ok-Some-Sweep.field-0 c.in-Ok-Some-Sweep.field-0-0 (Sweep c.in-Ok-Some-Sweep.first c.in-Ok-Some-Sweep.count c.in-Ok-Some-Sweep.events c.in-Ok-Some-Sweep.workers) c.in-Ok-Some-Sweep.ensures c.in-Ok-Some-Sweep.field-0-is c.in-Ok-Some-Sweep.field-0-0-is) asks in omega (arith, e))

pub returns-in-Ok-Some-Sweep-clause-control : goal.returns-in-Ok-Some-Sweep-clause-control
returns-in-Ok-Some-Sweep-clause-control g c =
    λ to say asks. absurd (let e = same_kind c.args.words.now (Sweep c.in-Ok-Some-Sweep.first c.in-Ok-Some-Sweep.count c.in-Ok-Some-Sweep.events c.in-Ok-Some-Sweep.workers) (Ctl to say) (answered c.args.words.now c.in-Ok-Some-Sweep.field-0 c.in-Ok-Some-Sweep.field-0-0 (Sweep c.in-Ok-Some-Sweep.first c.in-Ok-Some-Sweep.count c.in-Ok-Some-Sweep.events c.in-Ok-Some-Sweep.workers) c.in-Ok-Some-Sweep.ensures c.in-Ok-Some-Sweep.field-0-is c.in-Ok-Some-Sweep.field-0-0-is) asks in omega (arith, e))

pub returns-in-Ok-Some-Sweep-clause-replay : goal.returns-in-Ok-Some-Sweep-clause-replay
returns-in-Ok-Some-Sweep-clause-replay g c =
    λ asks. absurd (no_replay c.args.words.now (Sweep c.in-Ok-Some-Sweep.first c.in-Ok-Some-Sweep.count c.in-Ok-Some-Sweep.events c.in-Ok-Some-Sweep.workers) (answered c.args.words.now c.in-Ok-Some-Sweep.field-0 c.in-Ok-Some-Sweep.field-0-0 (Sweep c.in-Ok-Some-Sweep.first c.in-Ok-Some-Sweep.count c.in-Ok-Some-Sweep.events c.in-Ok-Some-Sweep.workers) c.in-Ok-Some-Sweep.ensures c.in-Ok-Some-Sweep.field-0-is c.in-Ok-Some-Sweep.field-0-0-is) (omega arith) asks)

pub returns-in-Ok-Some-Sweep-clause-promise : goal.returns-in-Ok-Some-Sweep-clause-promise
returns-in-Ok-Some-Sweep-clause-promise g c =
    λ asks. absurd (no_replay c.args.words.now (Sweep c.in-Ok-Some-Sweep.first c.in-Ok-Some-Sweep.count c.in-Ok-Some-Sweep.events c.in-Ok-Some-Sweep.workers) (answered c.args.words.now c.in-Ok-Some-Sweep.field-0 c.in-Ok-Some-Sweep.field-0-0 (Sweep c.in-Ok-Some-Sweep.first c.in-Ok-Some-Sweep.count c.in-Ok-Some-Sweep.events c.in-Ok-Some-Sweep.workers) c.in-Ok-Some-Sweep.ensures c.in-Ok-Some-Sweep.field-0-is c.in-Ok-Some-Sweep.field-0-0-is) (omega arith) asks)

pub returns-in-Ok-Some-Sweep-clause-end : goal.returns-in-Ok-Some-Sweep-clause-end
returns-in-Ok-Some-Sweep-clause-end g c =
    λ asks. absurd (no_replay c.args.words.now (Sweep c.in-Ok-Some-Sweep.first c.in-Ok-Some-Sweep.count c.in-Ok-Some-Sweep.events c.in-Ok-Some-Sweep.workers) (answered c.args.words.now c.in-Ok-Some-Sweep.field-0 c.in-Ok-Some-Sweep.field-0-0 (Sweep c.in-Ok-Some-Sweep.first c.in-Ok-Some-Sweep.count c.in-Ok-Some-Sweep.events c.in-Ok-Some-Sweep.workers) c.in-Ok-Some-Sweep.ensures c.in-Ok-Some-Sweep.field-0-is c.in-Ok-Some-Sweep.field-0-0-is) (omega arith) asks)

pub returns-in-Ok-Some-Sweep-clause-headline : goal.returns-in-Ok-Some-Sweep-clause-headline
returns-in-Ok-Some-Sweep-clause-headline g c =
    λ asks. absurd (no_replay c.args.words.now (Sweep c.in-Ok-Some-Sweep.first c.in-Ok-Some-Sweep.count c.in-Ok-Some-Sweep.events c.in-Ok-Some-Sweep.workers) (answered c.args.words.now c.in-Ok-Some-Sweep.field-0 c.in-Ok-Some-Sweep.field-0-0 (Sweep c.in-Ok-Some-Sweep.first c.in-Ok-Some-Sweep.count c.in-Ok-Some-Sweep.events c.in-Ok-Some-Sweep.workers) c.in-Ok-Some-Sweep.ensures c.in-Ok-Some-Sweep.field-0-is c.in-Ok-Some-Sweep.field-0-0-is) (omega arith) asks)

pub returns-in-Ok-Some-Sweep-clause-complete : goal.returns-in-Ok-Some-Sweep-clause-complete
returns-in-Ok-Some-Sweep-clause-complete g c =
    λ asks. absurd (no_replay c.args.words.now (Sweep c.in-Ok-Some-Sweep.first c.in-Ok-Some-Sweep.count c.in-Ok-Some-Sweep.events c.in-Ok-Some-Sweep.workers) (answered c.args.words.now c.in-Ok-Some-Sweep.field-0 c.in-Ok-Some-Sweep.field-0-0 (Sweep c.in-Ok-Some-Sweep.first c.in-Ok-Some-Sweep.count c.in-Ok-Some-Sweep.events c.in-Ok-Some-Sweep.workers) c.in-Ok-Some-Sweep.ensures c.in-Ok-Some-Sweep.field-0-is c.in-Ok-Some-Sweep.field-0-0-is) (omega arith) asks)

pub returns-in-Ok-Some-Node-clause-sweep : goal.returns-in-Ok-Some-Node-clause-sweep
returns-in-Ok-Some-Node-clause-sweep g c =
    λ first count events workers asks. absurd (let e = same_kind c.args.words.now (Node c.in-Ok-Some-Node.config c.in-Ok-Some-Node.ticks) (Sweep first count events workers) (answered c.args.words.now c.in-Ok-Some-Node.field-0 c.in-Ok-Some-Node.field-0-0 (Node c.in-Ok-Some-Node.config c.in-Ok-Some-Node.ticks) c.in-Ok-Some-Node.ensures c.in-Ok-Some-Node.field-0-is c.in-Ok-Some-Node.field-0-0-is) asks in omega (arith, e))

pub returns-in-Ok-Some-Node-clause-control : goal.returns-in-Ok-Some-Node-clause-control
returns-in-Ok-Some-Node-clause-control g c =
    λ to say asks. absurd (let e = same_kind c.args.words.now (Node c.in-Ok-Some-Node.config c.in-Ok-Some-Node.ticks) (Ctl to say) (answered c.args.words.now c.in-Ok-Some-Node.field-0 c.in-Ok-Some-Node.field-0-0 (Node c.in-Ok-Some-Node.config c.in-Ok-Some-Node.ticks) c.in-Ok-Some-Node.ensures c.in-Ok-Some-Node.field-0-is c.in-Ok-Some-Node.field-0-0-is) asks in omega (arith, e))

pub returns-in-Ok-Some-Node-clause-replay : goal.returns-in-Ok-Some-Node-clause-replay
returns-in-Ok-Some-Node-clause-replay g c =
    λ asks. absurd (no_replay c.args.words.now (Node c.in-Ok-Some-Node.config c.in-Ok-Some-Node.ticks) (answered c.args.words.now c.in-Ok-Some-Node.field-0 c.in-Ok-Some-Node.field-0-0 (Node c.in-Ok-Some-Node.config c.in-Ok-Some-Node.ticks) c.in-Ok-Some-Node.ensures c.in-Ok-Some-Node.field-0-is c.in-Ok-Some-Node.field-0-0-is) (omega arith) asks)

pub returns-in-Ok-Some-Node-clause-promise : goal.returns-in-Ok-Some-Node-clause-promise
returns-in-Ok-Some-Node-clause-promise g c =
    λ asks. absurd (no_replay c.args.words.now (Node c.in-Ok-Some-Node.config c.in-Ok-Some-Node.ticks) (answered c.args.words.now c.in-Ok-Some-Node.field-0 c.in-Ok-Some-Node.field-0-0 (Node c.in-Ok-Some-Node.config c.in-Ok-Some-Node.ticks) c.in-Ok-Some-Node.ensures c.in-Ok-Some-Node.field-0-is c.in-Ok-Some-Node.field-0-0-is) (omega arith) asks)

pub returns-in-Ok-Some-Node-clause-end : goal.returns-in-Ok-Some-Node-clause-end
returns-in-Ok-Some-Node-clause-end g c =
    λ asks. absurd (no_replay c.args.words.now (Node c.in-Ok-Some-Node.config c.in-Ok-Some-Node.ticks) (answered c.args.words.now c.in-Ok-Some-Node.field-0 c.in-Ok-Some-Node.field-0-0 (Node c.in-Ok-Some-Node.config c.in-Ok-Some-Node.ticks) c.in-Ok-Some-Node.ensures c.in-Ok-Some-Node.field-0-is c.in-Ok-Some-Node.field-0-0-is) (omega arith) asks)

pub returns-in-Ok-Some-Node-clause-headline : goal.returns-in-Ok-Some-Node-clause-headline
returns-in-Ok-Some-Node-clause-headline g c =
    λ asks. absurd (no_replay c.args.words.now (Node c.in-Ok-Some-Node.config c.in-Ok-Some-Node.ticks) (answered c.args.words.now c.in-Ok-Some-Node.field-0 c.in-Ok-Some-Node.field-0-0 (Node c.in-Ok-Some-Node.config c.in-Ok-Some-Node.ticks) c.in-Ok-Some-Node.ensures c.in-Ok-Some-Node.field-0-is c.in-Ok-Some-Node.field-0-0-is) (omega arith) asks)

pub returns-in-Ok-Some-Node-clause-complete : goal.returns-in-Ok-Some-Node-clause-complete
returns-in-Ok-Some-Node-clause-complete g c =
    λ asks. absurd (no_replay c.args.words.now (Node c.in-Ok-Some-Node.config c.in-Ok-Some-Node.ticks) (answered c.args.words.now c.in-Ok-Some-Node.field-0 c.in-Ok-Some-Node.field-0-0 (Node c.in-Ok-Some-Node.config c.in-Ok-Some-Node.ticks) c.in-Ok-Some-Node.ensures c.in-Ok-Some-Node.field-0-is c.in-Ok-Some-Node.field-0-0-is) (omega arith) asks)

pub returns-in-Ok-Some-Ctl-clause-sweep : goal.returns-in-Ok-Some-Ctl-clause-sweep
returns-in-Ok-Some-Ctl-clause-sweep g c =
    λ first count events workers asks. absurd (let e = same_kind c.args.words.now (Ctl c.in-Ok-Some-Ctl.to c.in-Ok-Some-Ctl.say) (Sweep first count events workers) (answered c.args.words.now c.in-Ok-Some-Ctl.field-0 c.in-Ok-Some-Ctl.field-0-0 (Ctl c.in-Ok-Some-Ctl.to c.in-Ok-Some-Ctl.say) c.in-Ok-Some-Ctl.ensures c.in-Ok-Some-Ctl.field-0-is c.in-Ok-Some-Ctl.field-0-0-is) asks in omega (arith, e))

pub returns-in-Ok-Some-Ctl-clause-node : goal.returns-in-Ok-Some-Ctl-clause-node
returns-in-Ok-Some-Ctl-clause-node g c =
    λ config ticks asks. absurd (let e = same_kind c.args.words.now (Ctl c.in-Ok-Some-Ctl.to c.in-Ok-Some-Ctl.say) (Node config ticks) (answered c.args.words.now c.in-Ok-Some-Ctl.field-0 c.in-Ok-Some-Ctl.field-0-0 (Ctl c.in-Ok-Some-Ctl.to c.in-Ok-Some-Ctl.say) c.in-Ok-Some-Ctl.ensures c.in-Ok-Some-Ctl.field-0-is c.in-Ok-Some-Ctl.field-0-0-is) asks in omega (arith, e))

pub returns-in-Ok-Some-Ctl-clause-replay : goal.returns-in-Ok-Some-Ctl-clause-replay
returns-in-Ok-Some-Ctl-clause-replay g c =
    λ asks. absurd (no_replay c.args.words.now (Ctl c.in-Ok-Some-Ctl.to c.in-Ok-Some-Ctl.say) (answered c.args.words.now c.in-Ok-Some-Ctl.field-0 c.in-Ok-Some-Ctl.field-0-0 (Ctl c.in-Ok-Some-Ctl.to c.in-Ok-Some-Ctl.say) c.in-Ok-Some-Ctl.ensures c.in-Ok-Some-Ctl.field-0-is c.in-Ok-Some-Ctl.field-0-0-is) (omega arith) asks)

pub returns-in-Ok-Some-Ctl-clause-promise : goal.returns-in-Ok-Some-Ctl-clause-promise
returns-in-Ok-Some-Ctl-clause-promise g c =
    λ asks. absurd (no_replay c.args.words.now (Ctl c.in-Ok-Some-Ctl.to c.in-Ok-Some-Ctl.say) (answered c.args.words.now c.in-Ok-Some-Ctl.field-0 c.in-Ok-Some-Ctl.field-0-0 (Ctl c.in-Ok-Some-Ctl.to c.in-Ok-Some-Ctl.say) c.in-Ok-Some-Ctl.ensures c.in-Ok-Some-Ctl.field-0-is c.in-Ok-Some-Ctl.field-0-0-is) (omega arith) asks)

pub returns-in-Ok-Some-Ctl-clause-end : goal.returns-in-Ok-Some-Ctl-clause-end
returns-in-Ok-Some-Ctl-clause-end g c =
    λ asks. absurd (no_replay c.args.words.now (Ctl c.in-Ok-Some-Ctl.to c.in-Ok-Some-Ctl.say) (answered c.args.words.now c.in-Ok-Some-Ctl.field-0 c.in-Ok-Some-Ctl.field-0-0 (Ctl c.in-Ok-Some-Ctl.to c.in-Ok-Some-Ctl.say) c.in-Ok-Some-Ctl.ensures c.in-Ok-Some-Ctl.field-0-is c.in-Ok-Some-Ctl.field-0-0-is) (omega arith) asks)

pub returns-in-Ok-Some-Ctl-clause-headline : goal.returns-in-Ok-Some-Ctl-clause-headline
returns-in-Ok-Some-Ctl-clause-headline g c =
    λ asks. absurd (no_replay c.args.words.now (Ctl c.in-Ok-Some-Ctl.to c.in-Ok-Some-Ctl.say) (answered c.args.words.now c.in-Ok-Some-Ctl.field-0 c.in-Ok-Some-Ctl.field-0-0 (Ctl c.in-Ok-Some-Ctl.to c.in-Ok-Some-Ctl.say) c.in-Ok-Some-Ctl.ensures c.in-Ok-Some-Ctl.field-0-is c.in-Ok-Some-Ctl.field-0-0-is) (omega arith) asks)

pub returns-in-Ok-Some-Ctl-clause-complete : goal.returns-in-Ok-Some-Ctl-clause-complete
returns-in-Ok-Some-Ctl-clause-complete g c =
    λ asks. absurd (no_replay c.args.words.now (Ctl c.in-Ok-Some-Ctl.to c.in-Ok-Some-Ctl.say) (answered c.args.words.now c.in-Ok-Some-Ctl.field-0 c.in-Ok-Some-Ctl.field-0-0 (Ctl c.in-Ok-Some-Ctl.to c.in-Ok-Some-Ctl.say) c.in-Ok-Some-Ctl.ensures c.in-Ok-Some-Ctl.field-0-is c.in-Ok-Some-Ctl.field-0-0-is) (omega arith) asks)

pub returns-in-Ok-Some-Sweep-clause-sweep : goal.returns-in-Ok-Some-Sweep-clause-sweep
returns-in-Ok-Some-Sweep-clause-sweep g c =
    swept_so c.args.words.now
    (λ first count events. Swept first count events c.run_sweep.result (g.W.Sink.faults c.args.output.now) (g.W.Sink.faults c.run_sweep.new.output) (g.W.Sink.written c.args.output.now) (g.W.Sink.written c.run_sweep.new.output))
    c.in-Ok-Some-Sweep.first c.in-Ok-Some-Sweep.count c.in-Ok-Some-Sweep.events c.in-Ok-Some-Sweep.workers (answered c.args.words.now c.in-Ok-Some-Sweep.field-0 c.in-Ok-Some-Sweep.field-0-0 (Sweep c.in-Ok-Some-Sweep.first c.in-Ok-Some-Sweep.count c.in-Ok-Some-Sweep.events c.in-Ok-Some-Sweep.workers) c.in-Ok-Some-Sweep.ensures c.in-Ok-Some-Sweep.field-0-is c.in-Ok-Some-Sweep.field-0-0-is)
    (record { sweep = c.run_sweep.ensures.sweep; apart = c.run_sweep.ensures.apart; complete = c.run_sweep.ensures.complete })

pub returns-in-Ok-Some-Node-clause-node : goal.returns-in-Ok-Some-Node-clause-node
returns-in-Ok-Some-Node-clause-node g c =
    ran_so c.args.words.now
    (λ config ticks. RanNode (g.F.Folder.files c.args.folder.now) config ticks c.run_node.result (g.F.Folder.faults c.args.folder.now) (g.F.Folder.faults c.run_node.new.folder) (sink (g.W.Sink.written c.args.output.now) (g.W.Sink.faults c.args.output.now)) (sink (g.W.Sink.written c.run_node.new.output) (g.W.Sink.faults c.run_node.new.output)) (wire (g.L.Link.bound c.args.link.now) (g.L.Link.sends c.args.link.now) (g.L.Link.losses c.args.link.now) (g.L.Link.coming c.args.link.now)) (wire (g.L.Link.bound c.run_node.new.link) (g.L.Link.sends c.run_node.new.link) (g.L.Link.losses c.run_node.new.link) (g.L.Link.coming c.run_node.new.link)) (g.L.Link.faults c.args.link.now) (g.L.Link.faults c.run_node.new.link) (g.C.Clock.readings c.args.clock.now))
    c.in-Ok-Some-Node.config c.in-Ok-Some-Node.ticks (answered c.args.words.now c.in-Ok-Some-Node.field-0 c.in-Ok-Some-Node.field-0-0 (Node c.in-Ok-Some-Node.config c.in-Ok-Some-Node.ticks) c.in-Ok-Some-Node.ensures c.in-Ok-Some-Node.field-0-is c.in-Ok-Some-Node.field-0-0-is)
    (record { cause = c.run_node.ensures.cause; runs = inl c.run_node.ensures.runs })

pub returns-in-Ok-Some-Ctl-clause-control : goal.returns-in-Ok-Some-Ctl-clause-control
returns-in-Ok-Some-Ctl-clause-control g c =
    asked_so c.args.words.now
    (λ to say. Asked to say c.run_ctl.result (sink (g.W.Sink.written c.args.output.now) (g.W.Sink.faults c.args.output.now)) (sink (g.W.Sink.written c.run_ctl.new.output) (g.W.Sink.faults c.run_ctl.new.output)) (wire (g.L.Link.bound c.args.link.now) (g.L.Link.sends c.args.link.now) (g.L.Link.losses c.args.link.now) (g.L.Link.coming c.args.link.now)) (wire (g.L.Link.bound c.run_ctl.new.link) (g.L.Link.sends c.run_ctl.new.link) (g.L.Link.losses c.run_ctl.new.link) (g.L.Link.coming c.run_ctl.new.link)) (g.L.Link.faults c.args.link.now) (g.L.Link.faults c.run_ctl.new.link))
    c.in-Ok-Some-Ctl.to c.in-Ok-Some-Ctl.say (answered c.args.words.now c.in-Ok-Some-Ctl.field-0 c.in-Ok-Some-Ctl.field-0-0 (Ctl c.in-Ok-Some-Ctl.to c.in-Ok-Some-Ctl.say) c.in-Ok-Some-Ctl.ensures c.in-Ok-Some-Ctl.field-0-is c.in-Ok-Some-Ctl.field-0-0-is)
    (record { cause = c.run_ctl.ensures.cause; controls = inl c.run_ctl.ensures.controls })

pub returns-in-Err-clause-replay : goal.returns-in-Err-clause-replay
returns-in-Err-clause-replay g c =
    λ asks. absurd (texts_no_replay c.args.words.now c.in-Err.field-0 c.in-Err.ensures asks)

pub returns-in-Err-clause-promise : goal.returns-in-Err-clause-promise
returns-in-Err-clause-promise g c =
    λ asks. absurd (texts_no_replay c.args.words.now c.in-Err.field-0 c.in-Err.ensures asks)

pub returns-in-Err-clause-end : goal.returns-in-Err-clause-end
returns-in-Err-clause-end g c =
    λ asks. absurd (texts_no_replay c.args.words.now c.in-Err.field-0 c.in-Err.ensures asks)

pub returns-in-Err-clause-headline : goal.returns-in-Err-clause-headline
returns-in-Err-clause-headline g c =
    λ asks. absurd (texts_no_replay c.args.words.now c.in-Err.field-0 c.in-Err.ensures asks)

pub returns-in-Err-clause-complete : goal.returns-in-Err-clause-complete
returns-in-Err-clause-complete g c =
    λ asks. absurd (texts_no_replay c.args.words.now c.in-Err.field-0 c.in-Err.ensures asks)

pub returns-in-Err-clause-sweep : goal.returns-in-Err-clause-sweep
returns-in-Err-clause-sweep g c =
    λ first count events workers asks. absurd (texts_no_sweep c.args.words.now c.in-Err.field-0 c.in-Err.ensures first count events workers asks)

pub returns-in-Err-clause-node : goal.returns-in-Err-clause-node
returns-in-Err-clause-node g c =
    λ config ticks asks. no_texts_node (g.F.Folder.files c.args.folder.now) config ticks c.written.result (g.F.Folder.faults c.args.folder.now) (sink (g.W.Sink.written c.args.output.now) (g.W.Sink.faults c.args.output.now)) (sink (g.W.Sink.written c.written.new.output) (g.W.Sink.faults c.written.new.output)) (wire (g.L.Link.bound c.args.link.now) (g.L.Link.sends c.args.link.now) (g.L.Link.losses c.args.link.now) (g.L.Link.coming c.args.link.now)) (g.L.Link.faults c.args.link.now) (g.C.Clock.readings c.args.clock.now) c.written.ensures.written

pub returns-in-Err-clause-control : goal.returns-in-Err-clause-control
returns-in-Err-clause-control g c =
    λ to say asks. no_texts_control to say c.written.result (sink (g.W.Sink.written c.args.output.now) (g.W.Sink.faults c.args.output.now)) (sink (g.W.Sink.written c.written.new.output) (g.W.Sink.faults c.written.new.output)) (wire (g.L.Link.bound c.args.link.now) (g.L.Link.sends c.args.link.now) (g.L.Link.losses c.args.link.now) (g.L.Link.coming c.args.link.now)) (g.L.Link.faults c.args.link.now) c.written.ensures.written

pub returns-in-Err-clause-usage : goal.returns-in-Err-clause-usage
returns-in-Err-clause-usage g c =
    λ other. absurd (texts_some c.args.words.now c.in-Err.field-0 c.in-Err.ensures other)
