use Rattle.std.proofs.Common.{ap, sym, ◌∙◌}
use Rattle.std.proofs.lemmas.Result.{on_ok_weaker}
use Rattle.ak_member.specs.Standing.{Standings, known}
use Rattle.ak_member.specs.Slots.{standings_of}
use Rattle.ak_member.proofs.MergeLemmas.{known_added}
use Rattle.ak_member.proofs.members.Members.note.Goals as goal

pub returns-clause-ok : goal.returns-clause-ok
returns-clause-ok c =
    on_ok_weaker c.add.result
    (λ added.
    known_added (standings_of c.self.inside.slots.entries) c.note_known.new.slots.entries c.add.new.self.entries c.args.who.now c.in_ok-who.who c.args.standing c.note_known.ensures.after
    (sym c.note_known.ensures.has ∙ c.if-note_known.false)
    c.in_ok-who.ensures added
    ∙ ap (λ (s : Standings). known s c.args.who.now c.args.standing) c.self.view_is)
    c.add.ensures.ok
