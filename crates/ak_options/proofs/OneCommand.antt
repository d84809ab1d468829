-- Words ask for one command at most.
use Rattle.std.proofs.Common.{◌≡◌, ℕ, List, [], ◌∷◌, codes, refl, sym, ◌∙◌, subst, inl, inr}
use Rattle.ak_address.specs.Unique.{AddressModel}
use Rattle.ak_address.specs.Spelling.{IsNumber, SpellsAddress}
use Rattle.ak_address.proofs.SpellingLemmas.{number_same, address_same}
use Rattle.ak_options.specs.declared.command.Command.{Command}
use Rattle.ak_options.specs.declared.command.Command.TheVariants.{Replay, Sweep, Node, Ctl}
use Rattle.ak_options.specs.declared.command.Request.{Request}
use Rattle.ak_options.specs.Options.{Pair, words_of, IsOnce, IsNumberOnce, IsNumberAtMostOnce}
use Rattle.ak_options.specs.CommandLine.{AsksFor, Says, command_name}
use Rattle.ak_options.specs.Requests.{SpellsRequest}
use Rattle.ak_options.proofs.Names.{differ}
use Rattle.ak_options.proofs.CommandLemmas.{same_name, same_rest, one_value}
use Rattle.ak_options.proofs.PairLaws.{words_same}
use Rattle.ak_options.proofs.RequestLemmas.{one_request_asked}

one_number : (name : List ℕ) (least most m n : ℕ) (pairs : List Pair) → IsNumberOnce name least most pairs m → IsNumberOnce name least most pairs n → m ≡ n
one_number name least most m n pairs one other =
    number_same other.0 m n (subst (λ (w : List ℕ). IsNumber w m) (one_value name pairs one.0 other.0 one.1 other.1) one.2.number) other.2.number

one_or_default : (name : List ℕ) (least most default m n : ℕ) (pairs : List Pair) → IsNumberAtMostOnce name least most default pairs m → IsNumberAtMostOnce name least most default pairs n → m ≡ n
one_or_default name least most default m n pairs (inl one) (inl other) = one_number name least most m n pairs one other
one_or_default name least most default m n pairs (inl one) (inr other) = absurd (let e : one.0 ∷ [] ≡ [] = sym one.1 ∙ other.0 in cc)
one_or_default name least most default m n pairs (inr one) (inl other) = absurd (let e : other.0 ∷ [] ≡ [] = sym other.1 ∙ one.0 in cc)
one_or_default name least most default m n pairs (inr one) (inr other) = one.1 ∙ sym other.1

one_address : (name : List ℕ) (pairs : List Pair) (v w : List ℕ) (a b : AddressModel) → IsOnce name pairs v → IsOnce name pairs w → SpellsAddress v a → SpellsAddress w b → a ≡ b
one_address name pairs v w a b one other spelt spelled =
    address_same w a b (subst (λ (x : List ℕ). SpellsAddress x a) (one_value name pairs v w one other) spelt) spelled

one_asked : (name : List ℕ) (pairs : List Pair) (v w : List ℕ) (r s : Request) → IsOnce name pairs v → IsOnce name pairs w → SpellsRequest v r → SpellsRequest w s → r ≡ s
one_asked name pairs v w r s one other asked asks =
    one_request_asked w r s (subst (λ (x : List ℕ). SpellsRequest x r) (one_value name pairs v w one other) asked) asks

said : (pairs : List Pair) (one other : Command) → command_name one ≡ command_name other → Says pairs one → Says pairs other → one ≡ other
said pairs Replay Replay named h g = refl
said pairs (Sweep f c e w) (Sweep f' c' e' w') named h g =
    (λ i. Sweep
    (one_number (codes "--first") 0 9000000000000000000 f f' pairs h.first_once g.first_once i)
    (one_number (codes "--count") 1 100000 c c' pairs h.count_once g.count_once i)
    (one_number (codes "--events") 1 2000 e e' pairs h.events_once g.events_once i)
    (one_or_default (codes "--workers") 1 64 1 w w' pairs h.workers_at_most_once g.workers_at_most_once i))
said pairs (Node f t) (Node f' t') named h g =
    (λ i. Node
    (one_value (codes "--config") pairs f f' h.config_once g.config_once i)
    (one_number (codes "--ticks") 0 1000000000 t t' pairs h.ticks_once g.ticks_once i))
said pairs (Ctl a r) (Ctl b s) named h g =
    (λ i. Ctl
    (one_address (codes "--to") pairs h.address g.address a b h.to_once g.to_once h.to_spelled g.to_spelled i)
    (one_asked (codes "--say") pairs h.text g.text r s h.say_once g.say_once h.say_spelled g.say_spelled i))
said pairs Replay (Sweep f c e w) named h g = absurd (differ (codes "replay") (codes "sweep") refl named)
said pairs Replay (Node f t) named h g = absurd (differ (codes "replay") (codes "node") refl named)
said pairs Replay (Ctl a r) named h g = absurd (differ (codes "replay") (codes "ctl") refl named)
said pairs (Sweep f c e w) Replay named h g = absurd (differ (codes "sweep") (codes "replay") refl named)
said pairs (Sweep f c e w) (Node f' t) named h g = absurd (differ (codes "sweep") (codes "node") refl named)
said pairs (Sweep f c e w) (Ctl a r) named h g = absurd (differ (codes "sweep") (codes "ctl") refl named)
said pairs (Node f t) Replay named h g = absurd (differ (codes "node") (codes "replay") refl named)
said pairs (Node f t) (Sweep f' c e w) named h g = absurd (differ (codes "node") (codes "sweep") refl named)
said pairs (Node f t) (Ctl a r) named h g = absurd (differ (codes "node") (codes "ctl") refl named)
said pairs (Ctl a r) Replay named h g = absurd (differ (codes "ctl") (codes "replay") refl named)
said pairs (Ctl a r) (Sweep f c e w) named h g = absurd (differ (codes "ctl") (codes "sweep") refl named)
said pairs (Ctl a r) (Node f t) named h g = absurd (differ (codes "ctl") (codes "node") refl named)

pub one_command : (words : List (List ℕ)) (one other : Command) → AsksFor words one → AsksFor words other → one ≡ other
one_command words one other h g =
    let whole : command_name one ∷ words_of h.pairs ≡ command_name other ∷ words_of g.pairs = sym h.whole ∙ g.whole in
    let named = same_name (command_name one) (command_name other) (words_of h.pairs) (words_of g.pairs) whole in
    let paired = words_same h.pairs g.pairs (same_rest (command_name one) (command_name other) (words_of h.pairs) (words_of g.pairs) whole) in
    said g.pairs one other named (subst (λ (ps : List Pair). Says ps one) paired h.says) g.says
