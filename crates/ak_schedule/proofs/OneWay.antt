-- A line is read in one way at most.
use Rattle.std.proofs.Common.{◌≡◌, ℕ, nat_eq, ◌+◌, ◌<◌, Bool, true, false, if◌then◌else◌, List, [], ◌∷◌, length, zero, suc, sym, ◌∙◌, ap, subst, refl, codes, arith}
use Rattle.std.specs.Prelude.{Some, slice_get}
use Rattle.std.specs.Cmp.Lexicographic.{pointwise}
use Rattle.std.specs.List.{AllZip}
use Rattle.ak_address.specs.Unique.{AddressModel, UniqueModel}
use Rattle.ak_address.specs.Spelling.{IsNumber, SpellsAddress, SpellsUnique}
use Rattle.ak_address.proofs.SpellingLemmas.{number_same, address_same, unique_same}
use Rattle.ak_schedule.specs.declared.event.Event.{Event}
use Rattle.ak_schedule.specs.declared.event.Event.TheVariants.{Start, Found, Join, Tick, Deliver, Leave, Down, Offer, Stop}
use Rattle.ak_schedule.specs.declared.draft.Extra.{Extra}
use Rattle.ak_schedule.specs.declared.draft.Extra.TheVariants.{Weakly, Role, Types}
use Rattle.ak_schedule.specs.declared.draft.Header as header
use Rattle.ak_settings.specs.declared.settings.Strategy.{Strategy}
use Rattle.ak_settings.specs.declared.settings.Strategy.TheVariants.{StaticQuorum, KeepMajority, KeepOldest, DownAll}
use Rattle.ak_settings.specs.Settings.{SettingsModel}
use Rattle.ak_schedule.specs.Schedule.{Sets, SetsExtra, SetsHeader, SpellsEvent, SpellsWords, SpellsOption, SpellsSetting, SpellsStrategy, SpellsListing, SpellsRole, SpellsTypes, NamesExtra, extra_name, extras, switch_word}
use Rattle.ak_schedule.specs.Draft.{Drafted, ReadsExtra, ReadsHeader}
use Rattle.ak_schedule.specs.Line.{words}
use Rattle.ak_schedule.specs.Kind.{kind_name}
use Rattle.ak_schedule.proofs.EventWords.{event_kind, named, same_kind}

pub same_unique : (a b : List ℕ) (u v : UniqueModel) → a ≡ b → SpellsUnique a u → SpellsUnique b v → u ≡ v
same_unique a b u v same one other = unique_same b u v (subst (λ (w : List ℕ). SpellsUnique w u) same one) other

same_address : (a b : List ℕ) (u v : AddressModel) → a ≡ b → SpellsAddress a u → SpellsAddress b v → u ≡ v
same_address a b u v same one other = address_same b u v (subst (λ (w : List ℕ). SpellsAddress w u) same one) other

pub same_number : (a b : List ℕ) (m n : ℕ) → a ≡ b → IsNumber a m → IsNumber b n → m ≡ n
same_number a b m n same one other = number_same b m n (subst (λ (w : List ℕ). IsNumber w m) same one) other

same_event : (ws : List (List ℕ)) (e f : Event) → event_kind e ≡ event_kind f → SpellsWords ws e → SpellsWords ws f → e ≡ f
same_event ws (Start u) (Start v) k = λ h g. let w : h.0 ≡ g.0 = cc in ap Start (same_unique h.0 g.0 u v w h.2 g.2)
same_event ws (Found u) (Found v) k = λ h g. let w : h.0 ≡ g.0 = cc in ap Found (same_unique h.0 g.0 u v w h.2 g.2)
same_event ws (Stop u) (Stop v) k = λ h g. let w : h.0 ≡ g.0 = cc in ap Stop (same_unique h.0 g.0 u v w h.2 g.2)
same_event ws (Deliver m) (Deliver n) k = λ h g. let w : h.0 ≡ g.0 = cc in ap Deliver (same_number h.0 g.0 m n w h.2.number g.2.number)
same_event ws (Join u s) (Join v t) k = λ h g.
    let first : h.0 ≡ g.0 = cc in
    let second : h.1 ≡ g.1 = cc in
    ap (λ (x : UniqueModel). Join x s) (same_unique h.0 g.0 u v first h.3 g.3) ∙ ap (λ (x : AddressModel). Join v x) (same_address h.1 g.1 s t second h.4 g.4)
same_event ws (Tick u m) (Tick v n) k = λ h g.
    let first : h.0 ≡ g.0 = cc in
    let second : h.1 ≡ g.1 = cc in
    ap (λ (x : UniqueModel). Tick x m) (same_unique h.0 g.0 u v first h.3 g.3) ∙ ap (λ (x : ℕ). Tick v x) (same_number h.1 g.1 m n second h.4.number g.4.number)
same_event ws (Leave u s) (Leave v t) k = λ h g.
    let first : h.0 ≡ g.0 = cc in
    let second : h.1 ≡ g.1 = cc in
    ap (λ (x : UniqueModel). Leave x s) (same_unique h.0 g.0 u v first h.3 g.3) ∙ ap (λ (x : UniqueModel). Leave v x) (same_unique h.1 g.1 s t second h.4 g.4)
same_event ws (Down u s) (Down v t) k = λ h g.
    let first : h.0 ≡ g.0 = cc in
    let second : h.1 ≡ g.1 = cc in
    ap (λ (x : UniqueModel). Down x s) (same_unique h.0 g.0 u v first h.3 g.3) ∙ ap (λ (x : UniqueModel). Down v x) (same_unique h.1 g.1 s t second h.4 g.4)
same_event ws (Offer u s m) (Offer v t n) k = λ h g.
    let first : h.0 ≡ g.0 = cc in
    let entity : s ≡ t = cc in
    let third : h.1 ≡ g.1 = cc in
    ap (λ (x : UniqueModel). Offer x s m) (same_unique h.0 g.0 u v first h.3 g.3)
    ∙ ap (λ (x : List ℕ). Offer v x m) entity
    ∙ ap (λ (x : ℕ). Offer v t x) (same_number h.1 g.1 m n third h.5.number g.5.number)
same_event ws e f k = absurd (cc)

same_words : (ws : List (List ℕ)) (e f : Event) → SpellsWords ws e → SpellsWords ws f → e ≡ f
same_words [] e f h g = absurd (no_words e h)
  where
    no_words : (e : Event) → SpellsWords [] e → ⊥
    no_words (Start u) h = cc
    no_words (Found u) h = cc
    no_words (Join u t) h = cc
    no_words (Tick u word) h = cc
    no_words (Deliver packet) h = cc
    no_words (Leave u who) h = cc
    no_words (Down u who) h = cc
    no_words (Offer u entity payload) h = cc
    no_words (Stop u) h = cc
same_words (name ∷ ws) e f h g =
    let one : name ≡ kind_name (event_kind e) = named (name ∷ ws) ws name refl e h in
    let other : name ≡ kind_name (event_kind f) = named (name ∷ ws) ws name refl f g in
    same_event (name ∷ ws) e f (same_kind (event_kind e) (event_kind f) (sym other ∙ one)) h g

pub one_event : (line : List ℕ) (e f : Event) → SpellsEvent line e → SpellsEvent line f → e ≡ f
one_event line e f one other = same_words (words line) e f one.words other.words

pub same_addresses : (ws : List (List ℕ)) (one other : List AddressModel) → AllZip SpellsAddress ws one → AllZip SpellsAddress ws other → one ≡ other
same_addresses [] [] [] h g = refl
same_addresses [] [] (b ∷ bs) h g = absurd g
same_addresses [] (a ∷ as') bs h g = absurd h
same_addresses (w ∷ ws) [] bs h g = absurd h
same_addresses (w ∷ ws) (a ∷ as') [] h g = absurd g
same_addresses (w ∷ ws) (a ∷ as') (b ∷ bs) h g =
    ap (λ (x : AddressModel). x ∷ as') (address_same w a b h.0 g.0) ∙ ap (λ (xs : List AddressModel). b ∷ xs) (same_addresses ws as' bs h.1 g.1)

same_setting : (name : List ℕ) (most : ℕ) (ws : List (List ℕ)) (m n : ℕ) → SpellsSetting name most ws m → SpellsSetting name most ws n → m ≡ n
same_setting name most ws m n h g = let w : h.0 ≡ g.0 = cc in same_number h.0 g.0 m n w h.2.number g.2.number

-- a strategy's name says which it is: the number of the strategy that has this name, and the name in a line
abbrev strategy_index : Strategy → ℕ
strategy_index (StaticQuorum quorum) = 0
strategy_index KeepMajority = 1
strategy_index (KeepOldest alone) = 2
strategy_index DownAll = 3

abbrev name_index : List ℕ → ℕ
name_index name =
    if pointwise nat_eq name (codes "static-quorum") then 0
    else if pointwise nat_eq name (codes "keep-majority") then 1
    else if pointwise nat_eq name (codes "keep-oldest") then 2
    else 3

abbrev named_strategy : List (List ℕ) → ℕ
named_strategy (first ∷ name ∷ ws) = name_index name
named_strategy (first ∷ []) = 3
named_strategy [] = 3

told : (ws : List (List ℕ)) (s : Strategy) → SpellsStrategy ws s → named_strategy ws ≡ strategy_index s
told ws (StaticQuorum quorum) h = ap named_strategy h.1
told ws KeepMajority h = ap named_strategy h
told ws (KeepOldest alone) h = ap named_strategy h
told ws DownAll h = ap named_strategy h

same_switch : (a b : Bool) → switch_word a ≡ switch_word b → a ≡ b
same_switch true true same = refl
same_switch true false same = let n = ap length same in absurd (omega arith)
same_switch false true same = let n = ap length same in absurd (omega arith)
same_switch false false same = refl

same_strategy : (ws : List (List ℕ)) (s t : Strategy) → strategy_index s ≡ strategy_index t → SpellsStrategy ws s → SpellsStrategy ws t → s ≡ t
same_strategy ws (StaticQuorum m) (StaticQuorum n) same = λ h g. let w : h.0 ≡ g.0 = cc in ap StaticQuorum (same_number h.0 g.0 m n w h.2.number g.2.number)
same_strategy ws KeepMajority KeepMajority same = λ h g. refl
same_strategy ws (KeepOldest a) (KeepOldest b) same = λ h g. let w : switch_word a ≡ switch_word b = cc in ap KeepOldest (same_switch a b w)
same_strategy ws DownAll DownAll same = λ h g. refl
same_strategy ws s t same = absurd (omega arith)

same_listing : (ws : List (List ℕ)) (one other : List AddressModel) → SpellsListing ws one → SpellsListing ws other → one ≡ other
same_listing ws one other h g =
    let names : h.0 ≡ g.0 = cc in
    same_addresses g.0 one other (subst (λ (ns : List (List ℕ)). AllZip SpellsAddress ns one) names h.2) g.2

same_settings : (which : header.Header) (ws : List (List ℕ)) (old one other : SettingsModel) → Sets which ws old one → Sets which ws old other → one ≡ other
same_settings header.TheVariants.Listed ws old one other h g =
    h.2 ∙ ap (λ (x : List AddressModel). record old { listed = x; role = x }) (same_listing ws h.0 g.0 h.1 g.1) ∙ sym g.2
same_settings header.TheVariants.Strategy ws old one other h g =
    h.2 ∙ ap (λ (x : Strategy). record old { strategy = x }) (same_strategy ws h.0 g.0 (sym (told ws h.0 h.1) ∙ told ws g.0 g.1) h.1 g.1) ∙ sym g.2
same_settings header.TheVariants.Margin ws old one other h g =
    h.2 ∙ ap (λ (x : ℕ). record old { margin = x }) (same_setting (codes "margin") 1000000 ws h.0 g.0 h.1 g.1) ∙ sym g.2
same_settings header.TheVariants.Deadline ws old one other h g =
    h.2 ∙ ap (λ (x : ℕ). record old { deadline = x }) (same_setting (codes "deadline") 1000000 ws h.0 g.0 h.1 g.1) ∙ sym g.2
same_settings header.TheVariants.Stable ws old one other h g =
    h.2 ∙ ap (λ (x : ℕ). record old { stable = x }) (same_setting (codes "stable") 1000000 ws h.0 g.0 h.1 g.1) ∙ sym g.2
same_settings header.TheVariants.Shards ws old one other h g =
    h.2 ∙ ap (λ (x : ℕ). record old { shards = x; types = [] }) (same_setting (codes "shards") 1000 ws h.0 g.0 h.1 g.1) ∙ sym g.2
same_settings header.TheVariants.Buffer ws old one other h g =
    h.2 ∙ ap (λ (x : ℕ). record old { buffer = x }) (same_setting (codes "buffer") 100000 ws h.0 g.0 h.1 g.1) ∙ sym g.2
same_settings header.TheVariants.Threshold ws old one other h g =
    h.2 ∙ ap (λ (x : ℕ). record old { threshold = x }) (same_setting (codes "threshold") 1000 ws h.0 g.0 h.1 g.1) ∙ sym g.2
same_settings header.TheVariants.Limit ws old one other h g =
    h.2 ∙ ap (λ (x : ℕ). record old { limit = x }) (same_setting (codes "limit") 1000 ws h.0 g.0 h.1 g.1) ∙ sym g.2

pub one_settings : (which : header.Header) (line : List ℕ) (old one other : SettingsModel) → SetsHeader which line old one → SetsHeader which line old other → one ≡ other
one_settings which line old one other h g = same_settings which (words line) old one other h.words g.words

pub one_draft : (line : List ℕ) (old one other : Drafted) → ReadsHeader line old one → ReadsHeader line old other → one ≡ other
one_draft line old one other h g =
    let which : h.which ≡ g.which = cc (h.next, g.next) in
    let settings_lists : one.settings ≡ other.settings =
    one_settings g.which line old.settings one.settings other.settings (subst (λ (w : header.Header). SetsHeader w line old.settings one.settings) which h.sets) g.sets in
    (λ i. record { read = (h.count ∙ sym g.count) i; extra = (h.same_extra ∙ sym g.same_extra) i; settings = settings_lists i })

-- ---- an optional header
same_option : (name : List ℕ) (most : ℕ) (ws : List (List ℕ)) (m n : ℕ) → SpellsOption name most ws m → SpellsOption name most ws n → m ≡ n
same_option name most ws m n h g = let w : h.0 ≡ g.0 = cc in same_number h.0 g.0 m n w h.2.number g.2.number

same_role : (ws : List (List ℕ)) (listed one other : List AddressModel) → SpellsRole ws listed one → SpellsRole ws listed other → one ≡ other
same_role ws listed one other h g =
    let names : h.0 ≡ g.0 = cc in
    same_addresses g.0 one other (subst (λ (ns : List (List ℕ)). AllZip SpellsAddress ns one) names h.2) g.2

same_types : (ws : List (List ℕ)) (shards : ℕ) (one other : List (List ℕ)) → SpellsTypes ws shards one → SpellsTypes ws shards other → one ≡ other
same_types ws shards one other h g = let whole : codes "types" ∷ one ≡ codes "types" ∷ other = sym h.0 ∙ g.0 in cc

same_extra : (which : Extra) (ws : List (List ℕ)) (old one other : SettingsModel) → SetsExtra which ws old one → SetsExtra which ws old other → one ≡ other
same_extra Weakly ws old one other h g =
    h.2 ∙ ap (λ (x : ℕ). record old { weakly = x }) (same_option (codes "weakly") 1000000 ws h.0 g.0 h.1 g.1) ∙ sym g.2
same_extra Role ws old one other h g =
    h.2 ∙ ap (λ (x : List AddressModel). record old { role = x }) (same_role ws old.listed h.0 g.0 h.1 g.1) ∙ sym g.2
same_extra Types ws old one other h g =
    h.2 ∙ ap (λ (x : List (List ℕ)). record old { types = x }) (same_types ws old.shards h.0 g.0 h.1 g.1) ∙ sym g.2

-- its first word is its name, and tells which it is
pub begins_extra : (which : Extra) (ws : List (List ℕ)) (old new : SettingsModel) → SetsExtra which ws old new → (rest : List (List ℕ)) × (ws ≡ extra_name which ∷ rest)
begins_extra Weakly ws old new h = (h.1.0 ∷ [], h.1.1)
begins_extra Role ws old new h = (h.1.0, h.1.1)
begins_extra Types ws old new h = (h.0, h.1.0)

told_extra : (one other : Extra) → extra_name one ≡ extra_name other → one ≡ other
told_extra Weakly Weakly same = refl
told_extra Weakly Role same = let n = ap length same in absurd (omega (arith, n))
told_extra Weakly Types same = let n = ap length same in absurd (omega (arith, n))
told_extra Role Weakly same = let n = ap length same in absurd (omega (arith, n))
told_extra Role Role same = refl
told_extra Role Types same = let n = ap length same in absurd (omega (arith, n))
told_extra Types Weakly same = let n = ap length same in absurd (omega (arith, n))
told_extra Types Role same = let n = ap length same in absurd (omega (arith, n))
told_extra Types Types same = refl

-- it stands at one index
abbrev pub extra_index : Extra → ℕ
extra_index Weakly = 0
extra_index Role = 1
extra_index Types = 2

pub at_index : (index : ℕ) (which : Extra) → slice_get extras index ≡ Some which → index ≡ extra_index which
at_index zero Weakly is = refl
at_index zero Role is = absurd (cc)
at_index zero Types is = absurd (cc)
at_index (suc zero) Weakly is = absurd (cc)
at_index (suc zero) Role is = refl
at_index (suc zero) Types is = absurd (cc)
at_index (suc (suc zero)) Weakly is = absurd (cc)
at_index (suc (suc zero)) Role is = absurd (cc)
at_index (suc (suc zero)) Types is = refl
at_index (suc (suc (suc index))) which is = absurd (cc)

-- one whose place is past may not come any more
pub extra_too_late : (which : Extra) (line : List ℕ) (old : Drafted) (rest : List (List ℕ)) → words line ≡ extra_name which ∷ rest → extra_index which < old.extra
    → (next : Drafted) → ReadsExtra line old next → ⊥
extra_too_late which line old rest named late next r =
    let here = begins_extra r.which (words line) old.settings next.settings r.sets.words in
    let names : extra_name r.which ≡ extra_name which = cc (here.1, named) in
    let same : r.which ≡ which = told_extra r.which which names in
    let index : r.index ≡ extra_index which = at_index r.index r.which r.next ∙ ap extra_index same in
    let later = r.later in
    omega (arith, index, later, late)

-- a first word that is none of theirs
pub names_no_extra : (ws : List (List ℕ)) → ((rest : List (List ℕ)) → ws ≡ codes "weakly" ∷ rest → ⊥) → ((rest : List (List ℕ)) → ws ≡ codes "role" ∷ rest → ⊥)
    → ((rest : List (List ℕ)) → ws ≡ codes "types" ∷ rest → ⊥) → NamesExtra ws → ⊥
names_no_extra ws weakly role types (Weakly, rest, is) = weakly rest is
names_no_extra ws weakly role types (Role, rest, is) = role rest is
names_no_extra ws weakly role types (Types, rest, is) = types rest is

pub one_extra : (line : List ℕ) (old one other : Drafted) → ReadsExtra line old one → ReadsExtra line old other → one ≡ other
one_extra line old one other h g =
    let here = begins_extra h.which (words line) old.settings one.settings h.sets.words in
    let there = begins_extra g.which (words line) old.settings other.settings g.sets.words in
    let names : extra_name h.which ≡ extra_name g.which = cc (here.1, there.1) in
    let which : h.which ≡ g.which = told_extra h.which g.which names in
    let index : h.index ≡ g.index = at_index h.index h.which h.next ∙ ap extra_index which ∙ sym (at_index g.index g.which g.next) in
    let settings_lists : one.settings ≡ other.settings =
    same_extra g.which (words line) old.settings one.settings other.settings (subst (λ (w : Extra). SetsExtra w (words line) old.settings one.settings) which h.sets.words) g.sets.words in
    (λ i. record { read = (h.same_read ∙ sym g.same_read) i; extra = (h.past ∙ ap (λ (n : ℕ). n + 1) index ∙ sym g.past) i; settings = settings_lists i })
