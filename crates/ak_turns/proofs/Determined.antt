-- What comes to a node is determined.
use Rattle.std.proofs.Common.{◌≡◌, ℕ, List, [], ◌∷◌, Option, None, Some, sym, ap, ◌∙◌}
use Rattle.ak_config.specs.declared.config.Config.{Config}
use Rattle.ak_field.specs.Laws.{IsBytes}
use Rattle.ak_wire.specs.Wire.{put}
use Rattle.ak_wire.proofs.Decided.{decided}
use Rattle.ak_turns.specs.declared.happening.Happening.{Happening}
use Rattle.ak_turns.specs.declared.happening.Happening.TheVariants.{Found, Join, Tick, Packet, Bad}
use Rattle.ak_turns.specs.Timer.{tick_at}
use Rattle.ak_turns.specs.Turns.{Turn, Come, ComesAs, ComesBy, HearBytes, IsHeard, tick_by, time_after, first_time}

one_comes : (bytes : List ℕ) (g h : Happening) → IsBytes bytes → ComesAs bytes g → ComesAs bytes h → g ≡ h
one_comes bytes (Packet e) (Packet f) is p q = ap Packet ((decided bytes is).one_envelope e f p q)
one_comes bytes (Packet e) (Bad fault) is p q = absurd ((decided bytes is).never_both e fault p q)
one_comes bytes (Bad fault) (Packet e) is p q = absurd ((decided bytes is).never_both e fault q p)
one_comes bytes (Bad m) (Bad n) is p q = ap Bad ((decided bytes is).one_fault m n p q)
one_comes bytes Found h is p q = absurd p
one_comes bytes (Join target) h is p q = absurd p
one_comes bytes (Tick word) h is p q = absurd p
one_comes bytes (Packet e) Found is p q = absurd q
one_comes bytes (Packet e) (Join target) is p q = absurd q
one_comes bytes (Packet e) (Tick word) is p q = absurd q
one_comes bytes (Bad fault) Found is p q = absurd q
one_comes bytes (Bad fault) (Join target) is p q = absurd q
one_comes bytes (Bad fault) (Tick word) is p q = absurd q

one_by : (heard : Option (List ℕ)) (a b : Option Happening) → IsHeard heard → ComesBy heard a → ComesBy heard b → a ≡ b
one_by None a b is p q = p ∙ sym q
one_by (Some bytes) a b is p q = p.2 ∙ ap Some (one_comes bytes p.0 q.0 is p.1 q.1) ∙ sym q.2

pub come_determined : (c : Config) (first : ℕ) (turns : List Turn) (one other : List Happening) → HearBytes turns → Come c first turns one → Come c first turns other → one ≡ other
come_determined c first [] one other is p q = p ∙ sym q
come_determined c first (t ∷ before) one other is p q =
    let earlier = come_determined c first before p.0 q.0 is.1 p.2 q.2 in
    let heard = one_by t.heard p.1 q.1 is.0 p.3 q.3 in
    let tick = tick_by (tick_at t.reading (time_after (first_time c first) before)) in
    p.4
    ∙ ap (λ (xs : List Happening). put tick (put p.1 xs)) earlier
    ∙ ap (λ (o : Option Happening). put tick (put o q.0)) heard
    ∙ sym q.4
