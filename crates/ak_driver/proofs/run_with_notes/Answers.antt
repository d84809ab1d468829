use Rattle.std.proofs.Common.{rules, ◌≡◌, ℕ, List}
use Rattle.ak_address.specs.Unique.{AddressModel}
use Rattle.ak_options.specs.declared.command.Request.{Request}
use Rattle.ak_turns.specs.Outside.{sink, wire}
use Rattle.ak_driver.specs.StatusContracts.{Swept, RanNode, Asked, AsksNode, AsksControl, NoNode, NoControl}
use Rattle.ak_driver.proofs.HeadlineLemmas.{promised_apart}
use Rattle.ak_driver.proofs.NamedCommands.{is_named, is_unnamed, no_replay, no_sweep, no_node, no_control}
use Rattle.ak_driver.proofs.PromiseLemmas.{no_memory}
use Rattle.ak_driver.proofs.RunLemmas.{where_asked, where_not_asked, where_swept, where_words, whichever, always, unswept, refused, refused_at_once, not_held, no_texts_node, no_texts_control}
use Rattle.ak_driver.proofs.run_with_notes.Goals as goal

pub returns-in-Ok-clause-complete : goal.returns-in-Ok-clause-complete
returns-in-Ok-clause-complete g c =
    where_asked (g.A.Arguments.arguments c.args.arguments.now) c.deref.result.now _ (search rules) c.run_words-status.ensures.complete

pub returns-in-Ok-clause-usage : goal.returns-in-Ok-clause-usage
returns-in-Ok-clause-usage g c =
    refused (g.A.Arguments.arguments c.args.arguments.now) c.deref.result.now c.run_words-status.result _ _ _ _ (search rules) c.run_words-status.ensures.usage

pub returns-in-Ok-clause-unread : goal.returns-in-Ok-clause-unread
returns-in-Ok-clause-unread g c =
    where_not_asked (g.A.Arguments.arguments c.args.arguments.now) c.deref.result.now _ (search rules) c.run_words-status.ensures.unread

pub returns-in-Err-clause-promise : goal.returns-in-Err-clause-promise
returns-in-Err-clause-promise g c =
    always (g.A.Arguments.arguments c.args.arguments.now) _
    (no_memory (g.S.Source.remaining c.args.input.now) (g.S.Source.remaining c.args.input.now) c.written.result _ _ (g.W.Sink.written c.args.output.now) (g.W.Sink.written c.written.new.output) c.written.ensures.written)

pub returns-in-Err-clause-usage : goal.returns-in-Err-clause-usage
returns-in-Err-clause-usage g c =
    not_held (g.A.Arguments.arguments c.args.arguments.now) c.written.result _ _ _ _ (is_named (g.A.Arguments.arguments c.args.arguments.now) c.names_command.result c.if-not-names_command.false c.names_command.ensures) c.written.ensures.written

pub returns-in-Err-clause-headline : goal.returns-in-Err-clause-headline
returns-in-Err-clause-headline g c =
    always (g.A.Arguments.arguments c.args.arguments.now) _
    (promised_apart (g.S.Source.remaining c.args.input.now) (g.S.Source.remaining c.args.input.now) c.written.result (g.W.Sink.written c.args.output.now) (g.W.Sink.written c.written.new.output)
    (no_memory (g.S.Source.remaining c.args.input.now) (g.S.Source.remaining c.args.input.now) c.written.result _ _ (g.W.Sink.written c.args.output.now) (g.W.Sink.written c.written.new.output) c.written.ensures.written))

pub returns-in-Ok-clause-sweep : goal.returns-in-Ok-clause-sweep
returns-in-Ok-clause-sweep g c =
    where_swept (g.A.Arguments.arguments c.args.arguments.now) c.deref.result.now
    (λ first count events. Swept first count events c.run_words-status.result (g.W.Sink.faults c.args.output.now) (g.W.Sink.faults c.run_words-status.new.output) (g.W.Sink.written c.args.output.now) (g.W.Sink.written c.run_words-status.new.output)) (search rules)
    c.run_words-status.ensures.sweep

pub returns-in-Err-clause-sweep : goal.returns-in-Err-clause-sweep
returns-in-Err-clause-sweep g c =
    unswept (g.A.Arguments.arguments c.args.arguments.now) c.written.result _ _ _ _ c.written.ensures.written

pub returns-in-Ok-clause-node : goal.returns-in-Ok-clause-node
returns-in-Ok-clause-node g c =
    where_words (g.A.Arguments.arguments c.args.arguments.now) c.deref.result.now (λ ws. (config : List ℕ) (ticks : ℕ) → AsksNode ws config ticks → RanNode (g.F.Folder.files c.args.folder.now) config ticks c.run_words-status.result (g.F.Folder.faults c.args.folder.now) (g.F.Folder.faults c.run_words-status.new.folder) (sink (g.W.Sink.written c.args.output.now) (g.W.Sink.faults c.args.output.now)) (sink (g.W.Sink.written c.run_words-status.new.output) (g.W.Sink.faults c.run_words-status.new.output)) (wire (g.L.Link.bound c.args.link.now) (g.L.Link.sends c.args.link.now) (g.L.Link.losses c.args.link.now) (g.L.Link.coming c.args.link.now)) (wire (g.L.Link.bound c.run_words-status.new.link) (g.L.Link.sends c.run_words-status.new.link) (g.L.Link.losses c.run_words-status.new.link) (g.L.Link.coming c.run_words-status.new.link)) (g.L.Link.faults c.args.link.now) (g.L.Link.faults c.run_words-status.new.link) (g.C.Clock.readings c.args.clock.now)) (search rules) c.run_words-status.ensures.node

pub returns-in-Ok-clause-control : goal.returns-in-Ok-clause-control
returns-in-Ok-clause-control g c =
    where_words (g.A.Arguments.arguments c.args.arguments.now) c.deref.result.now (λ ws. (to : AddressModel) (say : Request) → AsksControl ws to say → Asked to say c.run_words-status.result (sink (g.W.Sink.written c.args.output.now) (g.W.Sink.faults c.args.output.now)) (sink (g.W.Sink.written c.run_words-status.new.output) (g.W.Sink.faults c.run_words-status.new.output)) (wire (g.L.Link.bound c.args.link.now) (g.L.Link.sends c.args.link.now) (g.L.Link.losses c.args.link.now) (g.L.Link.coming c.args.link.now)) (wire (g.L.Link.bound c.run_words-status.new.link) (g.L.Link.sends c.run_words-status.new.link) (g.L.Link.losses c.run_words-status.new.link) (g.L.Link.coming c.run_words-status.new.link)) (g.L.Link.faults c.args.link.now) (g.L.Link.faults c.run_words-status.new.link)) (search rules) c.run_words-status.ensures.control

pub returns-in-Ok-clause-folder : goal.returns-in-Ok-clause-folder
returns-in-Ok-clause-folder g c =
    where_words (g.A.Arguments.arguments c.args.arguments.now) c.deref.result.now (λ ws. NoNode ws → c.run_words-status.new.folder ≡ c.args.folder.now) (search rules) c.run_words-status.ensures.folder

pub returns-in-Ok-clause-link : goal.returns-in-Ok-clause-link
returns-in-Ok-clause-link g c =
    where_words (g.A.Arguments.arguments c.args.arguments.now) c.deref.result.now (λ ws. NoNode ws → NoControl ws → c.run_words-status.new.link ≡ c.args.link.now) (search rules) c.run_words-status.ensures.link

pub returns-in-Ok-clause-clock : goal.returns-in-Ok-clause-clock
returns-in-Ok-clause-clock g c =
    where_words (g.A.Arguments.arguments c.args.arguments.now) c.deref.result.now (λ ws. NoNode ws → c.run_words-status.new.clock ≡ c.args.clock.now) (search rules) c.run_words-status.ensures.clock

pub returns-in-Err-clause-node : goal.returns-in-Err-clause-node
returns-in-Err-clause-node g c =
    whichever (g.A.Arguments.arguments c.args.arguments.now) (λ ws. (config : List ℕ) (ticks : ℕ) → AsksNode ws config ticks → RanNode (g.F.Folder.files c.args.folder.now) config ticks c.written.result (g.F.Folder.faults c.args.folder.now) (g.F.Folder.faults c.args.folder.now) (sink (g.W.Sink.written c.args.output.now) (g.W.Sink.faults c.args.output.now)) (sink (g.W.Sink.written c.written.new.output) (g.W.Sink.faults c.written.new.output)) (wire (g.L.Link.bound c.args.link.now) (g.L.Link.sends c.args.link.now) (g.L.Link.losses c.args.link.now) (g.L.Link.coming c.args.link.now)) (wire (g.L.Link.bound c.args.link.now) (g.L.Link.sends c.args.link.now) (g.L.Link.losses c.args.link.now) (g.L.Link.coming c.args.link.now)) (g.L.Link.faults c.args.link.now) (g.L.Link.faults c.args.link.now) (g.C.Clock.readings c.args.clock.now))
    (λ ws config ticks asks. no_texts_node (g.F.Folder.files c.args.folder.now) config ticks c.written.result (g.F.Folder.faults c.args.folder.now) (sink (g.W.Sink.written c.args.output.now) (g.W.Sink.faults c.args.output.now)) (sink (g.W.Sink.written c.written.new.output) (g.W.Sink.faults c.written.new.output)) (wire (g.L.Link.bound c.args.link.now) (g.L.Link.sends c.args.link.now) (g.L.Link.losses c.args.link.now) (g.L.Link.coming c.args.link.now)) (g.L.Link.faults c.args.link.now) (g.C.Clock.readings c.args.clock.now) c.written.ensures.written)

pub returns-in-Err-clause-control : goal.returns-in-Err-clause-control
returns-in-Err-clause-control g c =
    whichever (g.A.Arguments.arguments c.args.arguments.now) (λ ws. (to : AddressModel) (say : Request) → AsksControl ws to say → Asked to say c.written.result (sink (g.W.Sink.written c.args.output.now) (g.W.Sink.faults c.args.output.now)) (sink (g.W.Sink.written c.written.new.output) (g.W.Sink.faults c.written.new.output)) (wire (g.L.Link.bound c.args.link.now) (g.L.Link.sends c.args.link.now) (g.L.Link.losses c.args.link.now) (g.L.Link.coming c.args.link.now)) (wire (g.L.Link.bound c.args.link.now) (g.L.Link.sends c.args.link.now) (g.L.Link.losses c.args.link.now) (g.L.Link.coming c.args.link.now)) (g.L.Link.faults c.args.link.now) (g.L.Link.faults c.args.link.now))
    (λ ws to say asks. no_texts_control to say c.written.result (sink (g.W.Sink.written c.args.output.now) (g.W.Sink.faults c.args.output.now)) (sink (g.W.Sink.written c.written.new.output) (g.W.Sink.faults c.written.new.output)) (wire (g.L.Link.bound c.args.link.now) (g.L.Link.sends c.args.link.now) (g.L.Link.losses c.args.link.now) (g.L.Link.coming c.args.link.now)) (g.L.Link.faults c.args.link.now) c.written.ensures.written)

-- ---- the first word is no command's name
pub returns-then-not-names_command-clause-replay : goal.returns-then-not-names_command-clause-replay
returns-then-not-names_command-clause-replay g c = no_replay (g.A.Arguments.arguments c.args.arguments.now) _ (is_unnamed (g.A.Arguments.arguments c.args.arguments.now) c.names_command.result c.if-not-names_command.true c.names_command.ensures)

pub returns-then-not-names_command-clause-promise : goal.returns-then-not-names_command-clause-promise
returns-then-not-names_command-clause-promise g c = no_replay (g.A.Arguments.arguments c.args.arguments.now) _ (is_unnamed (g.A.Arguments.arguments c.args.arguments.now) c.names_command.result c.if-not-names_command.true c.names_command.ensures)

pub returns-then-not-names_command-clause-end : goal.returns-then-not-names_command-clause-end
returns-then-not-names_command-clause-end g c = no_replay (g.A.Arguments.arguments c.args.arguments.now) _ (is_unnamed (g.A.Arguments.arguments c.args.arguments.now) c.names_command.result c.if-not-names_command.true c.names_command.ensures)

pub returns-then-not-names_command-clause-headline : goal.returns-then-not-names_command-clause-headline
returns-then-not-names_command-clause-headline g c = no_replay (g.A.Arguments.arguments c.args.arguments.now) _ (is_unnamed (g.A.Arguments.arguments c.args.arguments.now) c.names_command.result c.if-not-names_command.true c.names_command.ensures)

pub returns-then-not-names_command-clause-complete : goal.returns-then-not-names_command-clause-complete
returns-then-not-names_command-clause-complete g c = no_replay (g.A.Arguments.arguments c.args.arguments.now) _ (is_unnamed (g.A.Arguments.arguments c.args.arguments.now) c.names_command.result c.if-not-names_command.true c.names_command.ensures)

pub returns-then-not-names_command-clause-sweep : goal.returns-then-not-names_command-clause-sweep
returns-then-not-names_command-clause-sweep g c =
    no_sweep (g.A.Arguments.arguments c.args.arguments.now)
    (λ first count events. Swept first count events c.refuse.result (g.W.Sink.faults c.args.output.now) (g.W.Sink.faults c.refuse.new.output) (g.W.Sink.written c.args.output.now) (g.W.Sink.written c.refuse.new.output))
    (is_unnamed (g.A.Arguments.arguments c.args.arguments.now) c.names_command.result c.if-not-names_command.true c.names_command.ensures)

pub returns-then-not-names_command-clause-node : goal.returns-then-not-names_command-clause-node
returns-then-not-names_command-clause-node g c =
    no_node (g.A.Arguments.arguments c.args.arguments.now)
    (λ config ticks. RanNode (g.F.Folder.files c.args.folder.now) config ticks c.refuse.result (g.F.Folder.faults c.args.folder.now) (g.F.Folder.faults c.args.folder.now) (sink (g.W.Sink.written c.args.output.now) (g.W.Sink.faults c.args.output.now)) (sink (g.W.Sink.written c.refuse.new.output) (g.W.Sink.faults c.refuse.new.output)) (wire (g.L.Link.bound c.args.link.now) (g.L.Link.sends c.args.link.now) (g.L.Link.losses c.args.link.now) (g.L.Link.coming c.args.link.now)) (wire (g.L.Link.bound c.args.link.now) (g.L.Link.sends c.args.link.now) (g.L.Link.losses c.args.link.now) (g.L.Link.coming c.args.link.now)) (g.L.Link.faults c.args.link.now) (g.L.Link.faults c.args.link.now) (g.C.Clock.readings c.args.clock.now))
    (is_unnamed (g.A.Arguments.arguments c.args.arguments.now) c.names_command.result c.if-not-names_command.true c.names_command.ensures)

pub returns-then-not-names_command-clause-control : goal.returns-then-not-names_command-clause-control
returns-then-not-names_command-clause-control g c =
    no_control (g.A.Arguments.arguments c.args.arguments.now)
    (λ to say. Asked to say c.refuse.result (sink (g.W.Sink.written c.args.output.now) (g.W.Sink.faults c.args.output.now)) (sink (g.W.Sink.written c.refuse.new.output) (g.W.Sink.faults c.refuse.new.output)) (wire (g.L.Link.bound c.args.link.now) (g.L.Link.sends c.args.link.now) (g.L.Link.losses c.args.link.now) (g.L.Link.coming c.args.link.now)) (wire (g.L.Link.bound c.args.link.now) (g.L.Link.sends c.args.link.now) (g.L.Link.losses c.args.link.now) (g.L.Link.coming c.args.link.now)) (g.L.Link.faults c.args.link.now) (g.L.Link.faults c.args.link.now))
    (is_unnamed (g.A.Arguments.arguments c.args.arguments.now) c.names_command.result c.if-not-names_command.true c.names_command.ensures)

pub returns-then-not-names_command-clause-usage : goal.returns-then-not-names_command-clause-usage
returns-then-not-names_command-clause-usage g c = refused_at_once (g.A.Arguments.arguments c.args.arguments.now) c.refuse.result _ _ _ _ c.refuse.ensures.usage
