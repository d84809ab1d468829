-- Packets that are sent one after another, and the items of the actions that send them.
use Rattle.std.proofs.Common.{◌≡◌, ℕ, suc, ◌+◌, ◌≤◌, ◌<◌, List, [], ◌∷◌, ◌++◌, length, drop, get_or, Option, Some, None, IfSome, OnOk, Result, Ok, Err, refl, sym, ap, subst, inl, inr, ◌∙◌, arith, append-nil, append_assoc, length-append, zero-add}
use Rattle.std.specs.List.{Contains}
use Rattle.std.proofs.lemmas.List.{drop_more}
use Rattle.std.specs.declared.alloc.AllocError.{AllocError}
use Rattle.ak_gossip.specs.Gossip.{GossipState}
use Rattle.ak_outside.specs.declared.link.Sent.{Sent}
use Rattle.ak_outside.specs.declared.link.Sent as answer
use Rattle.ak_outside.specs.Link.{Sends, SendCause, TakesPacket}
use Rattle.ak_outside.specs.Outside.{Rose}
use Rattle.ak_wire.specs.declared.action.Action.{Action}
use Rattle.ak_wire.specs.declared.action.Action.TheVariants.{Send, Update, View, Settled, Active, Ended, Host, Gone, Entity, Deliver, Forward, Buffer, Drop, MarginEnd, Refused, Dead, Stopped}
use Rattle.ak_wire.specs.declared.envelope.Envelope.{Envelope}
use Rattle.ak_wire.specs.Datagram.{datagram, IsValid}
use Rattle.ak_wire.specs.Wire.{envelope_of, put, sent}
use Rattle.ak_report.specs.ActionText.{item, action_text, next_packet}
use Rattle.ak_turns.specs.Steps.{AllSent, sends_of, items_text, lost_text, answers_after}
use Rattle.ak_turns.specs.Outside.{Wire, MakesSends, CountsLosses, SendsPackets}
use Rattle.ak_turns.specs.TurnsContracts.{SendsOne, TellsOne, TellsAll}

-- ---- counts of losses
pub rose_more : (a b c : ℕ) → Rose a b → a ≤ b → b ≤ c → Rose a c
rose_more a b c r p q = λ n. grind (arith, r)

pub rose_after : (a b c : ℕ) → a ≤ b → Rose b c → Rose a c
rose_after a b c p r = λ n. let s = r n in omega (arith, s)

pub all_sent_more : (xs ys : List Sent) → AllSent xs → AllSent ys → AllSent (xs ++ ys)
all_sent_more [] ys p q = q
all_sent_more (x ∷ xs) ys p q = (p.0, all_sent_more xs ys p.1 q)

pub losses_more : (a b c : ℕ) (xs ys : List Sent) → CountsLosses a b xs → CountsLosses b c ys → CountsLosses a c (xs ++ ys)
losses_more a b c xs ys p q = (
  omega (arith, p.0, q.0),
  elim p.1 [
    | inl same ↦
        elim q.1 [
          | inl still ↦ inl (all_sent_more xs ys same.0 still.0, still.1 ∙ same.1)
          | inr rose ↦ inr (subst (λ (n : ℕ). Rose n c) same.1 rose)
        ]
    | inr rose ↦ inr (rose_more a b c rose p.0 q.0)
  ],
)

-- ---- sends one after another
pub sends_none : (k : Sends) (packets : List Envelope) → sends_of k packets [] ≡ k
sends_none k [] = refl
sends_none k (e ∷ packets) = refl

pub nothing_sent : (s : Option Sends) (packets : List Envelope) → MakesSends s s packets []
nothing_sent None packets = tt
nothing_sent (Some k) packets = (k, refl, sym (sends_none k packets))

pub nothing_lost : (n : ℕ) → CountsLosses n n []
nothing_lost n = (omega arith, inl (tt, refl))

pub sends_nothing : (w : Wire) (packets : List Envelope) → SendsPackets w w packets []
sends_nothing w packets = record { sends = nothing_sent w.sends packets; losses = nothing_lost w.losses; bound = refl; coming = refl }

sends_one_more : (k : Sends) (o : Option Envelope) (rest : List Envelope) (answers more : List Sent) → length answers ≡ length (put o [])
    → sends_of k (put o rest) (answers ++ more) ≡ sends_of (sends_of k (put o []) answers) rest more
sends_one_more k None rest [] more e = refl
sends_one_more k None rest (a ∷ answers) more e = absurd (omega (arith, e))
sends_one_more k (Some p) rest [] more e = absurd (omega (arith, e))
sends_one_more k (Some p) rest (a ∷ []) more e = refl
sends_one_more k (Some p) rest (a ∷ b ∷ answers) more e = absurd (omega (arith, e))

sends_one_cut : (k : Sends) (o : Option Envelope) (rest : List Envelope) (answers : List Sent) → length answers ≤ length (put o [])
    → sends_of k (put o rest) answers ≡ sends_of k (put o []) answers
sends_one_cut k None rest [] e = sends_none k rest
sends_one_cut k None rest (a ∷ answers) e = absurd (omega (arith, e))
sends_one_cut k (Some p) rest [] e = refl
sends_one_cut k (Some p) rest (a ∷ []) e = sends_none (sends_of k (p ∷ []) (a ∷ [])) rest
sends_one_cut k (Some p) rest (a ∷ b ∷ answers) e = absurd (omega (arith, e))

lost_same : (o : Option Envelope) (n : ℕ) (answers more : List Sent) → length answers ≡ length (put o []) → lost_text o n (answers ++ more) ≡ lost_text o n answers
lost_same None n answers more e = refl
lost_same (Some p) n [] more e = absurd (omega (arith, e))
lost_same (Some p) n (answer.TheVariants.Sent ∷ answers) more e = refl
lost_same (Some p) n (answer.TheVariants.Failed ∷ answers) more e = refl

after_same : (o : Option Envelope) (answers more : List Sent) → length answers ≡ length (put o []) → answers_after o (answers ++ more) ≡ more
after_same None [] more e = refl
after_same None (a ∷ answers) more e = absurd (omega (arith, e))
after_same (Some p) [] more e = absurd (omega (arith, e))
after_same (Some p) (a ∷ []) more e = refl
after_same (Some p) (a ∷ b ∷ answers) more e = absurd (omega (arith, e))

-- the item of one action, and those of the others
items_one_more : (g : GossipState) (n : ℕ) (a : Action) (others : List Action) (answers more : List Sent) → length answers ≡ length (put (envelope_of a) [])
    → items_text g n (a ∷ others) (answers ++ more)
    ≡ (item (action_text g n a) ++ lost_text (envelope_of a) n answers) ++ items_text g (next_packet a n) others more
items_one_more g n a others answers more e =
    ap (λ (t : List ℕ). (item (action_text g n a) ++ t) ++ items_text g (next_packet a n) others (answers_after (envelope_of a) (answers ++ more))) (lost_same (envelope_of a) n answers more e)
    ∙ ap (λ (bs : List Sent). (item (action_text g n a) ++ lost_text (envelope_of a) n answers) ++ items_text g (next_packet a n) others bs) (after_same (envelope_of a) answers more e)

put_length : (o : Option Envelope) (rest : List Envelope) → length (put o rest) ≡ length (put o []) + length rest
put_length None rest = sym (zero-add (length rest))
put_length (Some e) rest = omega arith

plus_none : (n : ℕ) → n ≡ n + 0
plus_none n = omega arith

next_counts : (a : Action) (n : ℕ) → next_packet a n ≡ n + length (put (envelope_of a) [])
next_counts (Send e) n = refl
next_counts (Update number effects) n = plus_none n
next_counts View n = plus_none n
next_counts Settled n = plus_none n
next_counts (Active term) n = plus_none n
next_counts (Ended term) n = plus_none n
next_counts (Host shard number) n = plus_none n
next_counts (Gone shard) n = plus_none n
next_counts (Entity entity) n = plus_none n
next_counts (Deliver entity payload) n = plus_none n
next_counts (Forward entity payload) n = plus_none n
next_counts (Buffer entity payload) n = plus_none n
next_counts (Drop entity payload) n = plus_none n
next_counts (MarginEnd who) n = plus_none n
next_counts (Refused why) n = plus_none n
next_counts Dead n = plus_none n
next_counts Stopped n = plus_none n

told_number : (first : ℕ) (actions others : List Action) (a : Action) (number after : ℕ) → after ≡ next_packet a number
    → number + length (put (envelope_of a) (sent others)) ≡ first + length (sent actions) → after + length (sent others) ≡ first + length (sent actions)
told_number first actions others a number after is e =
    let counts = next_counts a number in
    let lengths = put_length (envelope_of a) (sent others) in
    omega (arith, is, counts, lengths, e)

-- ---- the actions of a step
-- How far the telling of actions has come: these answers were given, and what is left of the actions completes the text and the sends.
pub record Told (g : GossipState) (first : ℕ) (actions : List Action) (before : List ℕ) (w0 : Wire) (number : ℕ) (rest : List Action) (out : List ℕ) (w : Wire) : Type 0 where
  pub answers : List Sent
  pub text : (more : List Sent) → out ++ items_text g number rest more ≡ before ++ items_text g first actions (answers ++ more)
  pub sends : IfSome w.sends (λ after. (known : Sends) × (w0.sends ≡ Some known)
      × ((more : List Sent) → sends_of known (sent actions) (answers ++ more) ≡ sends_of after (sent rest) more))
  pub count : length answers + length (sent rest) ≡ length (sent actions)
  pub numbered : number + length (sent rest) ≡ first + length (sent actions)
  pub losses : CountsLosses w0.losses w.losses answers
  pub bound : w.bound ≡ w0.bound
  pub coming : w.coming ≡ w0.coming

told_no_sends : (s : Option Sends) (packets : List Envelope)
    → IfSome s (λ after. (known : Sends) × (s ≡ Some known) × ((more : List Sent) → sends_of known packets ([] ++ more) ≡ sends_of after packets more))
told_no_sends None packets = tt
told_no_sends (Some k) packets = (k, refl, λ more. refl)

pub told_start : (g : GossipState) (first : ℕ) (actions : List Action) (before : List ℕ) (w : Wire) → Told g first actions before w first actions before w
told_start g first actions before w =
    record {
      answers = [];
      text = λ more. refl;
      sends = told_no_sends w.sends (sent actions);
      count = zero-add (length (sent actions));
      numbered = refl;
      losses = nothing_lost w.losses;
      bound = refl;
      coming = refl;
    }

told_sends : (s0 s t : Option Sends) (packets : List Envelope) (o : Option Envelope) (rest : List Envelope) (answers some : List Sent) → length some ≡ length (put o [])
    → IfSome s (λ after. (known : Sends) × (s0 ≡ Some known) × ((more : List Sent) → sends_of known packets (answers ++ more) ≡ sends_of after (put o rest) more))
    → MakesSends s t (put o []) some
    → IfSome t (λ after. (known : Sends) × (s0 ≡ Some known) × ((more : List Sent) → sends_of known packets ((answers ++ some) ++ more) ≡ sends_of after rest more))
told_sends s0 s None packets o rest answers some e p q = tt
told_sends s0 s (Some after) packets o rest answers some e p q =
    let P : Option Sends → Type 0 = λ x. IfSome x (λ mid. (known : Sends) × (s0 ≡ Some known) × ((more : List Sent) → sends_of known packets (answers ++ more) ≡ sends_of mid (put o rest) more)) in
    let before = subst P q.1 p in (
      before.0,
      before.1,
      λ more.
          ap (λ (bs : List Sent). sends_of before.0 packets bs) (append_assoc answers some more)
          ∙ before.2 (some ++ more)
          ∙ sends_one_more q.0 o rest some more e
          ∙ ap (λ (k : Sends). sends_of k rest more) (sym q.2),
    )

-- one action more was told
pub told_more : (g : GossipState) (first : ℕ) (actions : List Action) (before : List ℕ) (w0 : Wire) (number after : ℕ) (rest others : List Action) (a : Action) (out new : List ℕ) (w w1 : Wire)
    → Told g first actions before w0 number rest out w → rest ≡ a ∷ others → TellsOne (Ok after) g number a out new w w1
    → Told g first actions before w0 after others new w1
told_more g first actions before w0 number after rest others a out new w w1 t is one =
    let u : Told g first actions before w0 number (a ∷ others) out w = subst (λ (r : List Action). Told g first actions before w0 number r out w) is t in
    let some = one.0 in
    let o = envelope_of a in
    let grown : new ≡ out ++ (item (action_text g number a) ++ lost_text o number some) = one.3 in
    record {
      answers = u.answers ++ some;
      text = λ more.
          ap (λ (x : List ℕ). x ++ items_text g after others more) grown
          ∙ ap (λ (n : ℕ). (out ++ (item (action_text g number a) ++ lost_text o number some)) ++ items_text g n others more) one.2
          ∙ append_assoc out (item (action_text g number a) ++ lost_text o number some) (items_text g (next_packet a number) others more)
          ∙ ap (λ (x : List ℕ). out ++ x) (sym (items_one_more g number a others some more one.1))
          ∙ u.text (some ++ more)
          ∙ ap (λ (bs : List Sent). before ++ items_text g first actions bs) (sym (append_assoc u.answers some more));
      sends = told_sends w0.sends w.sends w1.sends (sent actions) o (sent others) u.answers some one.1 u.sends one.4.sends;
      count = omega (arith, length-append u.answers some, one.1, put_length o (sent others), u.count);
      numbered = told_number first actions others a number after one.2 u.numbered;
      losses = losses_more w0.losses w.losses w1.losses u.answers some u.losses one.4.losses;
      bound = one.4.bound ∙ u.bound;
      coming = one.4.coming ∙ u.coming;
    }

told_all_sends : (s0 s : Option Sends) (packets : List Envelope) (answers : List Sent)
    → IfSome s (λ after. (known : Sends) × (s0 ≡ Some known) × ((more : List Sent) → sends_of known packets (answers ++ more) ≡ sends_of after [] more))
    → MakesSends s0 s packets answers
told_all_sends s0 None packets answers p = tt
told_all_sends s0 (Some after) packets answers p =
    (p.0, p.1, sym (p.2 []) ∙ ap (λ (bs : List Sent). sends_of p.0 packets bs) (append-nil answers))

-- all actions were told
pub told_all : (g : GossipState) (first : ℕ) (actions : List Action) (before : List ℕ) (w0 : Wire) (number : ℕ) (rest : List Action) (out : List ℕ) (w : Wire)
    → Told g first actions before w0 number rest out w → rest ≡ [] → TellsAll (Ok number) g first actions before out w0 w
told_all g first actions before w0 number rest out w t is =
    let u : Told g first actions before w0 number [] out w = subst (λ (r : List Action). Told g first actions before w0 number r out w) is t in (
      u.answers,
      (let count : length u.answers + 0 ≡ length (sent actions) = u.count in omega (arith, count)),
      (let numbered : number + 0 ≡ first + length (sent actions) = u.numbered in omega (arith, numbered)),
      sym (append-nil out) ∙ u.text [] ∙ ap (λ (bs : List Sent). before ++ items_text g first actions bs) (append-nil u.answers),
      record { sends = told_all_sends w0.sends w.sends (sent actions) u.answers u.sends; losses = u.losses; bound = u.bound; coming = u.coming },
    )

told_cut_sends : (s0 s t : Option Sends) (packets : List Envelope) (o : Option Envelope) (rest : List Envelope) (answers some : List Sent) → length some ≤ length (put o [])
    → IfSome s (λ after. (known : Sends) × (s0 ≡ Some known) × ((more : List Sent) → sends_of known packets (answers ++ more) ≡ sends_of after (put o rest) more))
    → MakesSends s t (put o []) some
    → MakesSends s0 t packets (answers ++ some)
told_cut_sends s0 s None packets o rest answers some e p q = tt
told_cut_sends s0 s (Some after) packets o rest answers some e p q =
    let P : Option Sends → Type 0 = λ x. IfSome x (λ mid. (known : Sends) × (s0 ≡ Some known) × ((more : List Sent) → sends_of known packets (answers ++ more) ≡ sends_of mid (put o rest) more)) in
    let before = subst P q.1 p in
    (before.0, before.1, q.2 ∙ sym (sends_one_cut q.0 o rest some e) ∙ sym (before.2 some))

-- memory ran out on the way
pub told_cut : (g : GossipState) (first : ℕ) (actions : List Action) (before : List ℕ) (w0 : Wire) (number : ℕ) (rest others : List Action) (a : Action) (out new : List ℕ) (w w1 : Wire) (e f : AllocError)
    → Told g first actions before w0 number rest out w → rest ≡ a ∷ others → TellsOne (Err e) g number a out new w w1
    → TellsAll (Err f) g first actions before new w0 w1
told_cut g first actions before w0 number rest others a out new w w1 e f t is one =
    let u : Told g first actions before w0 number (a ∷ others) out w = subst (λ (r : List Action). Told g first actions before w0 number r out w) is t in
    let some = one.0 in (
      u.answers ++ some,
      omega (arith, length-append u.answers some, one.1, put_length (envelope_of a) (sent others), u.count),
      record {
        sends = told_cut_sends w0.sends w.sends w1.sends (sent actions) (envelope_of a) (sent others) u.answers some one.1 u.sends one.2.sends;
        losses = losses_more w0.losses w.losses w1.losses u.answers some u.losses one.2.losses;
        bound = one.2.bound ∙ u.bound;
        coming = one.2.coming ∙ u.coming;
      },
    )

-- ---- one packet
failed_sends : (e : Envelope) (w0 w1 : Wire) (answered : Sent) → answered ≡ answer.TheVariants.Failed
    → w0.losses ≤ w1.losses → SendCause w0.losses w1.losses answered → TakesPacket w0.sends w1.sends e.to (datagram e) answered
    → w1.bound ≡ w0.bound → w1.coming ≡ w0.coming → SendsPackets w0 w1 (e ∷ []) (answer.TheVariants.Failed ∷ [])
failed_sends e w0 w1 answered is rises cause takes bound coming =
    record {
      sends = subst (λ (a : Sent). TakesPacket w0.sends w1.sends e.to (datagram e) a) is takes;
      losses = (rises, inr (subst (λ (a : Sent). SendCause w0.losses w1.losses a) is cause));
      bound = bound;
      coming = coming;
    }

IsThere : Option Envelope → Type 0
IsThere None = ⊥
IsThere (Some e) = Unit {0}

some_none : (e : Envelope) → Some e ≡ None → ⊥
unfolding IsThere
some_none e is = subst IsThere is tt

-- a send failed, and that is printed, or there was no memory to print it
pub sent_failed : (result : Result (Unit {0}) AllocError) (number : ℕ) (e : Envelope) (old new : List ℕ) (w0 w1 : Wire) (answered : Sent)
    → answered ≡ answer.TheVariants.Failed → OnOk result (new ≡ old ++ lost_text (Some e) number (answer.TheVariants.Failed ∷ []))
    → w0.losses ≤ w1.losses → SendCause w0.losses w1.losses answered → TakesPacket w0.sends w1.sends e.to (datagram e) answered
    → w1.bound ≡ w0.bound → w1.coming ≡ w0.coming
    → SendsOne result number e old new w0 w1
sent_failed (Ok u) number e old new w0 w1 answered is printed rises cause takes bound coming = (
  answer.TheVariants.Failed,
  printed,
  failed_sends e w0 w1 answered is rises cause takes bound coming,
)
sent_failed (Err f) number e old new w0 w1 answered is printed rises cause takes bound coming = (
  answer.TheVariants.Failed ∷ [],
  omega arith,
  failed_sends e w0 w1 answered is rises cause takes bound coming,
)

-- ---- one action
none_told : (o : Option Envelope) (next number : ℕ) (text old new : List ℕ) (w : Wire) → o ≡ None → next ≡ number + length (put o []) → new ≡ old ++ text
    → (answers : List Sent) × (length answers ≡ length (put o [])) × (number ≡ next) × (new ≡ old ++ (text ++ lost_text o number answers)) × SendsPackets w w (put o []) answers
none_told None next number text old new w e n g = ([], refl, (let m : next ≡ number + 0 = n in omega (arith, m)), g ∙ ap (λ (t : List ℕ). old ++ t) (sym (append-nil text)), sends_nothing w [])
none_told (Some p) next number text old new w e n g = absurd (some_none p e)

-- an action that is no send has no packet
pub unsent : (a : Action) → ((e : Envelope) → a ≡ Send e → ⊥) → envelope_of a ≡ None
unsent (Send e) other = absurd (other e refl)
unsent a other = refl

pub tells_none : (g : GossipState) (number : ℕ) (a : Action) (old new : List ℕ) (w : Wire) → envelope_of a ≡ None → new ≡ old ++ item (action_text g number a)
    → TellsOne (Ok number) g number a old new w w
tells_none g number a old new w is printed =
    none_told (envelope_of a) (next_packet a number) number (item (action_text g number a)) old new w is (next_counts a number) printed

-- ---- the packets are valid
pub valid_first : (o : Option Envelope) (rest : List Envelope) → ((p : Envelope) → Contains (put o rest) p → IsValid p) → IfSome o IsValid
valid_first None rest v = tt
valid_first (Some e) rest v = v e (0, omega arith, refl)

pub valid_rest : (o : Option Envelope) (rest : List Envelope) → ((p : Envelope) → Contains (put o rest) p → IsValid p) → (p : Envelope) → Contains rest p → IsValid p
valid_rest None rest v p at = v p at
valid_rest (Some e) rest v p at = v p (suc at.0, omega (arith, at.1), at.2)

-- the actions from an index on
pub actions_from : (actions : List Action) (i : ℕ) (a : Action) → i < length actions → a ≡ get_or actions i a → drop i actions ≡ a ∷ drop (i + 1) actions
actions_from actions i a lt at = drop_more actions i a lt ∙ ap (λ (x : Action). x ∷ drop (i + 1) actions) (sym at)
