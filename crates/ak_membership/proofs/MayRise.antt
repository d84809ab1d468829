-- Entries that may be made: those that raise and remove members, and those that observe.
use Rattle.std.proofs.Common.{◌≡◌, ◌≢◌, inl, inr, ℕ, ◌+◌, ◌<◌, ◌≤◌, cond, Bool, true, false, IsTrue, List, [], ◌∷◌, Option, Some, None, is_some, refl, sym, ap, ◌∙◌, subst, arith, true≢false}
use Rattle.std.proofs.lemmas.Option.{same_Some}
use Rattle.std.proofs.lemmas.Bool.Decides.{nat_tests}
use Rattle.std.specs.FinMap as map
use Rattle.ak_address.specs.Unique.{UniqueModel}
use Rattle.ak_address.specs.Uniques.{UniqueSet, has}
use Rattle.ak_address.proofs.OrderLemmas.{unique_total}
use Rattle.ak_address.proofs.TableLaws.{same_or_apart}
use Rattle.ak_address.proofs.BoolLemmas.{none_there}
use Rattle.ak_clock.specs.declared.version.TheConstants.{BOUND}
use Rattle.ak_clock.specs.Version.{count}
use Rattle.ak_member.specs.declared.effect.Effect.{Effect}
use Rattle.ak_member.specs.declared.effect.Effect.TheVariants.{Joined, Rise, Removed, Observed}
use Rattle.ak_member.specs.declared.status.Status.{Status}
use Rattle.ak_member.specs.declared.status.Status.TheVariants.{Joining, WeaklyUp, Up, Leaving, Exiting, Down}
use Rattle.ak_member.specs.declared.standing.Standing.{Standing}
use Rattle.ak_member.specs.declared.standing.Standing.TheVariants.{Member, Buried}
use Rattle.ak_address.specs.Table.{value_with}
use Rattle.ak_member.specs.Standing.{Standings, member_of, as_member, is_member, known, merged_standing, older_number, greater_status}
use Rattle.ak_member.specs.View.{after_effect, after_effects, observed}
use Rattle.ak_member.proofs.ViewLaws.{get-known_here, get-known_elsewhere}
use Rattle.ak_gossip.specs.Gossip.{GossipState, is_known, most_uniques, IsNumber, IsStanding, IsGossip, MayUpdate}
use Rattle.ak_gossip.proofs.InvariantLemmas.{standing_merged, known_after_effects, older-first}

-- a process that is a member has a number
abbrev pub HasNumber : Standings → UniqueModel → Type 0
HasNumber s who = (status : Status) (number : ℕ) → map.get s who ≡ Some (Member status number) → 1 ≤ number

-- a rise that fits: to Up with a number, to Leaving and Exiting of one that has a number
abbrev pub IsFitRise : Standings → UniqueModel → Status → ℕ → Type 0
IsFitRise s who Joining number = ⊥
IsFitRise s who WeaklyUp number = number ≡ 0
IsFitRise s who Up number = (1 ≤ number) × (number ≤ BOUND)
IsFitRise s who Leaving number = (number ≡ 0) × HasNumber s who
IsFitRise s who Exiting number = (number ≡ 0) × HasNumber s who
IsFitRise s who Down number = number ≡ 0

-- an effect that fits what is known: of a known process, and no removal of the author
abbrev pub IsFit : Standings → UniqueModel → Effect → Type 0
IsFit s author (Joined who) = ⊥
IsFit s author (Rise who status number) = IsTrue (is_known s who) × IsFitRise s who status number
IsFit s author (Removed who confirmed) = IsTrue (is_known s who) × (author ≢ who)
IsFit s author (Observed subjects) = ⊥

-- ---- one effect
number_bounded : (status : Status) (number : ℕ) → IsNumber status number → number ≤ BOUND
number_bounded Joining number is = omega arith
number_bounded WeaklyUp number is = omega arith
number_bounded Up number is = is.1
number_bounded Leaving number is = is.1
number_bounded Exiting number is = is.1
number_bounded Down number is = is

older_itself : (k : ℕ) → 1 ≤ k → older_number k 0 ≡ older_number k k
older_itself k le = grind (arith, nat_tests)

-- a member with a number keeps it where it rises without one
numbered_rise : (x : Standing) (status : Status) → ((number : ℕ) → (1 ≤ number) × (number ≤ BOUND) → IsStanding (Member status number)) → IsStanding x → ((st : Status) (k : ℕ) → x ≡ Member st k → 1 ≤ k) → IsStanding (merged_standing x (Member status 0))
numbered_rise (Buried confirmed) status as_one is has_number = tt
numbered_rise (Member st k) status as_one is has_number =
    let least = has_number st k refl in
    subst (λ m. IsStanding (Member (greater_status st status) m)) (sym (older_itself k least))
    (standing_merged (Member st k) (Member status k) is (as_one k (least, number_bounded st k is)))

risen_standing : (s : Standings) (who : UniqueModel) (status : Status) (number : ℕ) (x : Standing) → IsFitRise s who status number → map.get s who ≡ Some x → IsStanding x → IsStanding (merged_standing x (Member status number))
risen_standing s who Joining number x fit at is = absurd fit
risen_standing s who WeaklyUp number x fit at is = standing_merged x (Member WeaklyUp number) is fit
risen_standing s who Up number x fit at is = standing_merged x (Member Up number) is fit
risen_standing s who Leaving number x fit at is = subst (λ m. IsStanding (merged_standing x (Member Leaving m))) (sym fit.0) (numbered_rise x Leaving (λ k h. h) is (λ st k same. fit.1 st k (at ∙ ap Some same)))
risen_standing s who Exiting number x fit at is = subst (λ m. IsStanding (merged_standing x (Member Exiting m))) (sym fit.0) (numbered_rise x Exiting (λ k h. h) is (λ st k same. fit.1 st k (at ∙ ap Some same)))
risen_standing s who Down number x fit at is = standing_merged x (Member Down number) is (subst (λ m. m ≤ BOUND) (sym fit) (omega arith))

-- what is true of the members and tombstones while effects are applied
pub record IsWhole (author : UniqueModel) (s : Standings) : Type 0 where
  pub standings : (who : UniqueModel) (x : Standing) → map.get s who ≡ Some x → IsStanding x
  pub few : map.len s ≤ most_uniques
  pub member : is_member s author ≡ true

len_same : (s : Standings) (who : UniqueModel) (x : Standing) → IsTrue (is_known s who) → map.len (known s who x) ≡ map.len s
len_same s who x there = map.len-insert unique_total s who (value_with merged_standing (map.get s who) x) ∙ ap (λ b. cond b (map.len s) (map.len s + 1)) there

module _ (s : Standings) (who : UniqueModel) (y : Standing) (there : IsTrue (is_known s who)) where
  -- what a known process is joined with
  value_is : (x : Standing) → map.get s who ≡ Some x → map.get (known s who y) who ≡ Some (merged_standing x y)
  value_is x at = get-known_here s who y ∙ ap (λ o. Some (value_with merged_standing o y)) at

  found_value : (x : Standing) × (map.get s who ≡ Some x)
  found_value = by_case (map.get s who) refl there
    where
      by_case : (o : Option Standing) → map.get s who ≡ o → is_some o ≡ true → (x : Standing) × (map.get s who ≡ Some x)
      by_case None at is = absurd (true≢false (sym is))
      by_case (Some x) at is = (x, at)

  known_whole : (author : UniqueModel) → IsWhole author s → ((x : Standing) → map.get s who ≡ Some x → IsStanding x → IsStanding (merged_standing x y)) → ((x : Standing) → author ≡ who → is_some (as_member x) ≡ true → is_some (as_member (merged_standing x y)) ≡ true)
      → IsWhole author (known s who y)
  known_whole author h fits stays = record {
    standings = λ other x at. elim (same_or_apart other who) [
      | inl same ↦
          let f = found_value in
          subst IsStanding (same_Some (merged_standing f.0 y) x (sym (value_is f.0 f.1) ∙ subst (λ k. map.get (known s who y) k ≡ Some x) same at)) (fits f.0 f.1 (h.standings who f.0 f.1))
      | inr apart ↦ h.standings other x (sym (get-known_elsewhere s who other y apart) ∙ at)
    ];
    few = let same = len_same s who y there in omega (arith, same, h.few);
    member = elim (same_or_apart author who) [
      | inl same ↦
          let f = found_value in
          let was : is_some (as_member f.0) ≡ true = sym (ap (λ o. is_some (member_of o)) (ap (map.get s) same ∙ f.1)) ∙ h.member in
          ap (λ k. is_some (member_of (map.get (known s who y) k))) same ∙ ap (λ o. is_some (member_of o)) (value_is f.0 f.1) ∙ stays f.0 same was
      | inr apart ↦ ap (λ o. is_some (member_of o)) (get-known_elsewhere s who author y apart) ∙ h.member
    ];
  }

  -- numbers stay
  keeps_numbers : (other : UniqueModel) → ((x : Standing) (st : Status) (k : ℕ) → ((a : Status) (b : ℕ) → x ≡ Member a b → 1 ≤ b) → merged_standing x y ≡ Member st k → 1 ≤ k) → HasNumber s other → HasNumber (known s who y) other
  keeps_numbers other joins has_number st k at = elim (same_or_apart other who) [
    | inl same ↦
        let f = found_value in
        joins f.0 st k (λ a b is. has_number a b (ap (map.get s) same ∙ f.1 ∙ ap Some is))
        (same_Some (merged_standing f.0 y) (Member st k) (sym (value_is f.0 f.1) ∙ subst (λ q. map.get (known s who y) q ≡ Some (Member st k)) same at))
    | inr apart ↦ has_number st k (sym (get-known_elsewhere s who other y apart) ∙ at)
  ]

number_in : Standing → ℕ
number_in (Member status number) = number
number_in (Buried confirmed) = 0

is_as_member : Standing → Bool
is_as_member (Member status number) = true
is_as_member (Buried confirmed) = false

rise_joins : (status : Status) (number : ℕ) (x : Standing) (st : Status) (k : ℕ) → ((a : Status) (b : ℕ) → x ≡ Member a b → 1 ≤ b) → merged_standing x (Member status number) ≡ Member st k → 1 ≤ k
unfolding number_in is_as_member
rise_joins status number (Member a b) st k has_number is = let least = older-first b number (has_number a b refl) in let same : older_number b number ≡ k = ap number_in is in omega arith
rise_joins status number (Buried confirmed) st k has_number is = absurd (true≢false (sym (ap is_as_member is)))

bury_joins : (confirmed : Bool) (x : Standing) (st : Status) (k : ℕ) → ((a : Status) (b : ℕ) → x ≡ Member a b → 1 ≤ b) → merged_standing x (Buried confirmed) ≡ Member st k → 1 ≤ k
unfolding is_as_member
bury_joins confirmed (Member a b) st k has_number is = absurd (true≢false (sym (ap is_as_member is)))
bury_joins confirmed (Buried other) st k has_number is = absurd (true≢false (sym (ap is_as_member is)))

rise_stays : (status : Status) (number : ℕ) (x : Standing) → is_some (as_member x) ≡ true → is_some (as_member (merged_standing x (Member status number))) ≡ true
rise_stays status number (Member a b) is = refl
rise_stays status number (Buried confirmed) is = is

buried_standing : (confirmed : Bool) (x : Standing) → IsStanding (merged_standing x (Buried confirmed))
buried_standing confirmed (Member status number) = tt
buried_standing confirmed (Buried other) = tt

one_whole : (author : UniqueModel) (s : Standings) (x : Effect) → IsWhole author s → IsFit s author x → IsWhole author (after_effect x s)
one_whole author s (Joined who) h fit = absurd fit
one_whole author s (Rise who status number) h fit = known_whole s who (Member status number) fit.0 author h (λ x at is. risen_standing s who status number x fit.1 at is) (λ x same is. rise_stays status number x is)
one_whole author s (Removed who confirmed) h fit = known_whole s who (Buried confirmed) fit.0 author h (λ x at is. buried_standing confirmed x) (λ x same is. absurd (fit.1 same))
one_whole author s (Observed subjects) h fit = absurd fit

-- what fits before an effect that fits does so after it
numbers_after : (author : UniqueModel) (s : Standings) (x : Effect) (who : UniqueModel) → IsFit s author x → HasNumber s who → HasNumber (after_effect x s) who
numbers_after author s (Joined k) who fit has_number = absurd fit
numbers_after author s (Rise k status number) who fit has_number = keeps_numbers s k (Member status number) fit.0 who (rise_joins status number) has_number
numbers_after author s (Removed k confirmed) who fit has_number = keeps_numbers s k (Buried confirmed) fit.0 who (bury_joins confirmed) has_number
numbers_after author s (Observed subjects) who fit has_number = absurd fit

rise_after : (author : UniqueModel) (s : Standings) (x : Effect) (who : UniqueModel) (status : Status) (number : ℕ) → IsFit s author x → IsFitRise s who status number → IsFitRise (after_effect x s) who status number
rise_after author s x who Joining number fit rise = rise
rise_after author s x who WeaklyUp number fit rise = rise
rise_after author s x who Up number fit rise = rise
rise_after author s x who Leaving number fit rise = (rise.0, numbers_after author s x who fit rise.1)
rise_after author s x who Exiting number fit rise = (rise.0, numbers_after author s x who fit rise.1)
rise_after author s x who Down number fit rise = rise

fit_after : (author : UniqueModel) (s : Standings) (x y : Effect) → IsFit s author x → IsFit s author y → IsFit (after_effect x s) author y
fit_after author s x (Joined who) fit other = other
fit_after author s x (Rise who status number) fit other = (known_after_effects (x ∷ []) s who other.0, rise_after author s x who status number fit other.1)
fit_after author s x (Removed who confirmed) fit other = (known_after_effects (x ∷ []) s who other.0, other.1)
fit_after author s x (Observed subjects) fit other = other

-- ---- all effects
abbrev pub AllFit : Standings → UniqueModel → List Effect → Type 0
AllFit s author [] = Unit {0}
AllFit s author (x ∷ effects) = IsFit s author x × AllFit s author effects

all_after : (author : UniqueModel) (s : Standings) (x : Effect) (effects : List Effect) → IsFit s author x → AllFit s author effects → AllFit (after_effect x s) author effects
all_after author s x [] fit all = tt
all_after author s x (y ∷ effects) fit all = (fit_after author s x y fit all.0, all_after author s x effects fit all.1)

all_whole : (author : UniqueModel) (s : Standings) (effects : List Effect) → IsWhole author s → AllFit s author effects → IsWhole author (after_effects effects s)
all_whole author s [] h all = h
all_whole author s (x ∷ effects) h all = all_whole author (after_effect x s) effects (one_whole author s x h all.0) (all_after author s x effects all.0 all.1)

none_observed : (author : UniqueModel) (s : Standings) (effects : List Effect) → AllFit s author effects → observed effects ≡ None
none_observed author s [] all = refl
none_observed author s (Joined who ∷ effects) all = absurd all.0
none_observed author s (Rise who status number ∷ effects) all = none_observed author s effects all.1
none_observed author s (Removed who confirmed ∷ effects) all = none_observed author s effects all.1
none_observed author s (Observed subjects ∷ effects) all = absurd all.0

-- effects that all fit may be an entry
pub fit_may : (author : UniqueModel) (effects : List Effect) (g : GossipState) → IsGossip g → count g.version author < BOUND → IsTrue (is_member g.view.standings author) → AllFit g.view.standings author effects → MayUpdate author effects g
fit_may author effects g p room member all =
    let h = all_whole author g.view.standings effects (record { standings = p.standings; few = p.few; member = member }) all in
    record {
      below_bound = room;
      stays = h.member;
      subjects = λ subjects who observes in_them. absurd (none_there subjects (sym (none_observed author g.view.standings effects all) ∙ observes));
      standings = h.standings;
      few = h.few;
    }

-- an entry that observes known processes
pub observing_may : (author : UniqueModel) (subjects : UniqueSet) (g : GossipState) → IsGossip g → count g.version author < BOUND → IsTrue (is_member g.view.standings author)
    → ((who : UniqueModel) → IsTrue (has subjects who) → IsTrue (is_known g.view.standings who)) → MayUpdate author (Observed subjects ∷ []) g
observing_may author subjects g p room member each = record {
  below_bound = room;
  stays = member;
  subjects = λ them who observes in_them. each who (subst (λ s. IsTrue (has s who)) (sym (same_Some subjects them observes)) in_them);
  standings = p.standings;
  few = p.few;
}
