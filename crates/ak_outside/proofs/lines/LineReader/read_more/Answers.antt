use Rattle.std.proofs.Common.{◌≡◌, ◌+◌, ◌≤◌, ◌<◌, ℕ, List, [], length, take, drop, ◌-◌, ◌++◌, ap, sym, refl, subst, ◌∙◌, arith}
use borrow.Rule.Slice.PartMut.{put_mid}
use Rattle.ak_outside.specs.Lines.{LineState}
use Rattle.ak_outside.proofs.LineLemmas.{held_size, room_left, moved_first, held_more, kept_more, at_end}
use Rattle.ak_outside.proofs.lines.LineReader.read_more.Goals as goal

pub returns-in-Got-clause-kept : goal.returns-in-Got-clause-kept
returns-in-Got-clause-kept g c =
    let size = c.self.inside.end - c.self.inside.start in
    let was : take size (drop c.self.inside.start c.self.inside.buffer) ≡ c.args.self.now.held = ap (λ (s : LineState). s.held) c.self.view_is in
    let some : 0 < length c.read.new.buffer =
    subst (λ (n : ℕ). 0 < n) (sym c.read.auto.buffer) (room_left c.copy_within.new.self size (omega (arith, c.requires.room, held_size c.self.inside.buffer c.args.self.now.held c.self.inside.start c.self.inside.end was c.self.invariant.0 (omega (arith, c.self.told, c.self.invariant.1)))) (c.copy_within.ensures.len ∙ c.self.told)) in
    let moved : take size c.copy_within.new.self ≡ c.args.self.now.held = ap (take size) c.copy_within.ensures.after ∙ moved_first c.self.inside.buffer c.self.inside.start c.self.inside.end c.self.invariant.0 (omega (arith, c.self.told, c.self.invariant.1)) ∙ was in
    let fits : size ≤ length c.copy_within.new.self = omega (arith, c.copy_within.ensures.len, c.self.told, c.self.invariant.1) in
    let none : size + c.in-Got.count - 0 ≡ size + c.in-Got.count = omega arith in
    let held : take (size + c.in-Got.count - 0) (put_mid size (8192 - size) c.copy_within.new.self c.read.new.buffer) ≡ c.args.self.now.held ++ take c.in-Got.count c.read.new.buffer =
    ap (λ (n : ℕ). take n (put_mid size (8192 - size) c.copy_within.new.self c.read.new.buffer)) none
    ∙ held_more c.copy_within.new.self c.read.new.buffer size (8192 - size) c.in-Got.count fits c.in-Got.ensures.fits
    ∙ ap (λ (l : List ℕ). l ++ take c.in-Got.count c.read.new.buffer) moved in
    kept_more c.args.self.now (record { held = _; line = []; ended = _ }) (g.S.Source.remaining c.args.input.now) (g.S.Source.remaining c.read.new.self) c.in-Got.count c.read.new.buffer c.requires.open refl
    held
    c.in-Got.ensures.bytes (λ none. (c.in-Got.ensures.end some).0 none)

pub returns-in-Got-clause-ended : goal.returns-in-Got-clause-ended
returns-in-Got-clause-ended g c =
    let size = c.self.inside.end - c.self.inside.start in
    let was : take size (drop c.self.inside.start c.self.inside.buffer) ≡ c.args.self.now.held = ap (λ (s : LineState). s.held) c.self.view_is in
    let some : 0 < length c.read.new.buffer =
    subst (λ (n : ℕ). 0 < n) (sym c.read.auto.buffer) (room_left c.copy_within.new.self size (omega (arith, c.requires.room, held_size c.self.inside.buffer c.args.self.now.held c.self.inside.start c.self.inside.end was c.self.invariant.0 (omega (arith, c.self.told, c.self.invariant.1)))) (c.copy_within.ensures.len ∙ c.self.told)) in
    at_end (g.S.Source.remaining c.args.input.now) (g.S.Source.remaining c.read.new.self) c.in-Got.count c.read.new.buffer c.in-Got.ensures.bytes (λ none. (c.in-Got.ensures.end some).0 none)
