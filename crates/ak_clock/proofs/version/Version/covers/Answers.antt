use Rattle.std.proofs.Common.{◌≡◌, sym, ◌∙◌}
use Rattle.ak_clock.specs.Version.{covers}
use Rattle.ak_clock.proofs.VersionLaws.{covers_from_test, test_from_covers}
use Rattle.ak_clock.proofs.WalkLemmas.{walk_covers}
use Rattle.ak_clock.proofs.version.Version.covers.Goals as goal

pub returns : goal.returns
returns c =
    let value : c.reaches.result ≡ covers c.args.self.now c.args.other.now = c.reaches.ensures ∙ walk_covers _ _ c.other.invariant ∙ (λ i. covers (c.self.view_is i) (c.other.view_is i)) in
    record { value = value; meaning = (λ yes. covers_from_test _ _ (sym value ∙ yes), λ over. value ∙ test_from_covers _ _ over) }
