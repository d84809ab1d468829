-- Kept events stay what they are as more is named, and one more is kept.
use Rattle.std.proofs.Common.{◌≡◌, ◌≢◌, ℕ, zero, suc, List, [], ◌∷◌, ◌++◌, length, slice_get, Option, None, Some, option_to_list, append_assoc, refl, sym, ap, subst, ◌∙◌}
use Rattle.std.specs.Option.{option_map}
use Rattle.ak_address.proofs.Pairs.{not_None}
use Rattle.ak_schedule.specs.declared.event.Event.{Event}
use Rattle.ak_accepted.specs.declared.accepted.Form.{Form}
use Rattle.ak_accepted.specs.declared.accepted.Form.TheVariants.{Start, Found, Join, Tick, Deliver, Leave, Down, Offer, Stop}
use Rattle.ak_accepted.specs.declared.accepted.Part.{Part}
use Rattle.ak_accepted.specs.Accepted.{process_in, target_in, offered_in, of_both, event_of, events_of, AreKept, Grows}

-- ---- what was named stays at its place
stays : (parts more : List Part) (place : ℕ) → slice_get parts place ≢ None → slice_get (parts ++ more) place ≡ slice_get parts place
stays [] more place there = absurd (there refl)
stays (p ∷ ps) more zero there = refl
stays (p ∷ ps) more (suc place) there = stays ps more place there

module _ {A : Type 0} (read : Option Part → Option A) (none : read None ≡ None) where
  read_stays : (parts more : List Part) (place : ℕ) (a : A) → read (slice_get parts place) ≡ Some a → read (slice_get (parts ++ more) place) ≡ read (slice_get parts place)
  read_stays parts more place a is = ap read (stays parts more place (λ gone. not_None a (sym is ∙ ap read gone ∙ none)))

-- ---- what an event is made of
mapped : {A B : Type 0} (happens : A → B) (o : Option A) (e : B) → option_map happens o ≡ Some e → (a : A) × (o ≡ Some a)
mapped happens None e is = absurd (not_None e (sym is))
mapped happens (Some a) e is = (a, refl)

both_there : {A B : Type 0} (happens : A → B → Event) (o : Option A) (p : Option B) (e : Event) → of_both happens o p ≡ Some e → ((a : A) × (o ≡ Some a)) × ((b : B) × (p ≡ Some b))
both_there happens None None e is = absurd (not_None e (sym is))
both_there happens None (Some b) e is = absurd (not_None e (sym is))
both_there happens (Some a) None e is = absurd (not_None e (sym is))
both_there happens (Some a) (Some b) e is = ((a, refl), (b, refl))

module _ (parts more : List Part) where
  one_stays : {A : Type 0} (read : Option Part → Option A) (none : read None ≡ None) (happens : A → Event) (place : ℕ) (e : Event)
      → option_map happens (read (slice_get parts place)) ≡ Some e → option_map happens (read (slice_get (parts ++ more) place)) ≡ Some e
  one_stays read none happens place e is =
      let there = mapped happens (read (slice_get parts place)) e is in
      ap (option_map happens) (read_stays read none parts more place there.0 there.1) ∙ is

  two_stay : {A B : Type 0} (read : Option Part → Option A) (none : read None ≡ None) (look : Option Part → Option B) (nothing : look None ≡ None) (happens : A → B → Event) (place other : ℕ) (e : Event)
      → of_both happens (read (slice_get parts place)) (look (slice_get parts other)) ≡ Some e
      → of_both happens (read (slice_get (parts ++ more) place)) (look (slice_get (parts ++ more) other)) ≡ Some e
  two_stay read none look nothing happens place other e is =
      let there = both_there happens (read (slice_get parts place)) (look (slice_get parts other)) e is in
      (λ i. of_both happens (read_stays read none parts more place there.0.0 there.0.1 i) (read_stays look nothing parts more other there.1.0 there.1.1 i)) ∙ is

  event_stays : (form : Form) (e : Event) → event_of parts form ≡ Some e → event_of (parts ++ more) form ≡ Some e
  event_stays (Start who) e is = one_stays process_in refl _ who e is
  event_stays (Found who) e is = one_stays process_in refl _ who e is
  event_stays (Join who target) e is = two_stay process_in refl target_in refl _ who target e is
  event_stays (Tick word who) e is = one_stays process_in refl _ who e is
  event_stays (Deliver number) e is = is
  event_stays (Leave who member) e is = two_stay process_in refl process_in refl _ who member e is
  event_stays (Down who member) e is = two_stay process_in refl process_in refl _ who member e is
  event_stays (Offer who offered) e is = two_stay process_in refl offered_in refl _ who offered e is
  event_stays (Stop who) e is = one_stays process_in refl _ who e is

  events_stay : (forms : List Form) → AreKept parts forms → events_of (parts ++ more) forms ≡ events_of parts forms
  events_stay [] kept = refl
  events_stay (form ∷ forms) kept = λ i. option_to_list ((event_stays form kept.0.0 kept.0.1 ∙ sym kept.0.1) i) ++ events_stay forms kept.1 i

  kept_stay : (forms : List Form) → AreKept parts forms → AreKept (parts ++ more) forms
  kept_stay [] kept = tt
  kept_stay (form ∷ forms) kept = ((kept.0.0, event_stays form kept.0.0 kept.0.1), kept_stay forms kept.1)

pub events_grown : (old new : List Part) (forms : List Form) → Grows old new → AreKept old forms → events_of new forms ≡ events_of old forms
events_grown old new forms grows kept = ap (λ (parts : List Part). events_of parts forms) grows.1 ∙ events_stay old grows.0 forms kept

pub kept_grown : (old new : List Part) (forms : List Form) → Grows old new → AreKept old forms → AreKept new forms
kept_grown old new forms grows kept = subst (λ (parts : List Part). AreKept parts forms) (sym grows.1) (kept_stay old grows.0 forms kept)

-- ---- one more event
pub events_pushed : (parts : List Part) (forms : List Form) (form : Form) (e : Event) → event_of parts form ≡ Some e → events_of parts (forms ++ form ∷ []) ≡ events_of parts forms ++ e ∷ []
events_pushed parts [] form e is = ap (λ (o : Option Event). option_to_list o ++ []) is
events_pushed parts (f ∷ fs) form e is = ap (λ (es : List Event). option_to_list (event_of parts f) ++ es) (events_pushed parts fs form e is) ∙ sym (append_assoc (option_to_list (event_of parts f)) (events_of parts fs) (e ∷ []))

pub kept_pushed : (parts : List Part) (forms : List Form) (form : Form) (e : Event) → event_of parts form ≡ Some e → AreKept parts forms → AreKept parts (forms ++ form ∷ [])
kept_pushed parts [] form e is kept = ((e, is), tt)
kept_pushed parts (f ∷ fs) form e is kept = (kept.0, kept_pushed parts fs form e is kept.1)

pub length-events : (parts : List Part) (forms : List Form) → AreKept parts forms → length (events_of parts forms) ≡ length forms
length-events parts [] kept = refl
length-events parts (f ∷ fs) kept = ap (λ (o : Option Event). length (option_to_list o ++ events_of parts fs)) kept.0.1 ∙ ap suc (length-events parts fs kept.1)
