-- Whom a node watches, in words of a ring of processes, and when a watched one is silent, in words of what came and of ticks
-- (Akka's Cluster Specification, "Failure Detector"; that ticks are counted up to a deadline is this project's choice).
use Rattle.std.specs.Prelude.{◌≡◌, ◌≢◌, ◌⊎◌, ℕ, ◌<◌, ◌≤◌, ◌+◌, IsTrue, List, [], ◌∷◌, ◌++◌, Contains}
use Rattle.std.specs.FinMap as map
use Rattle.std.specs.declared.cmp.Ordering.TheVariants.{Less}
use Rattle.ak_address.specs.Counters.{Counters}
use Rattle.ak_address.specs.Unique.{UniqueModel, unique_cmp}
use Rattle.ak_address.specs.Uniques.{has}
use Rattle.ak_member.specs.Standing.{Standings, is_member}
use Rattle.ak_detector.specs.Detector.{watch_ring, watching, heard, ticked, silent}
use Rattle.ak_meaning.specs.Counting.{AreMany}

-- ---- the ring
-- three processes in their order
abbrev pub InOrder : UniqueModel → UniqueModel → UniqueModel → Type 0
InOrder first second third = (unique_cmp first second ≡ Less) × (unique_cmp second third ≡ Less)

-- From the node on, one process comes before another on the ring: after the last process comes the first one again.
abbrev pub ComesBefore : UniqueModel → UniqueModel → UniqueModel → Type 0
ComesBefore me who other = InOrder me who other ⊎ (InOrder who other me ⊎ InOrder other me who)

-- another member than the node
abbrev pub IsOther : UniqueModel → Standings → UniqueModel → Type 0
IsOther me s who = IsTrue (is_member s who) × (who ≢ me)

-- The ring of a node is of other members. It has five where there are five or more, else all; and whoever comes before one of the
-- ring is of the ring too.
pub record IsRing (me : UniqueModel) (s : Standings) : Type 0 where
  pub number : ℕ
  pub number_is : AreMany (IsOther me s) number
  pub others : (who : UniqueModel) → IsTrue (has (watch_ring me s) who) → IsOther me s who
  pub five : 5 ≤ number → AreMany (λ who. IsTrue (has (watch_ring me s) who)) 5
  pub all : number < 5 → (who : UniqueModel) → IsOther me s who → IsTrue (has (watch_ring me s) who)
  pub next : (who other : UniqueModel) → IsTrue (has (watch_ring me s) other) → IsOther me s who → ComesBefore me who other → IsTrue (has (watch_ring me s) who)

-- ---- what comes to a detector
-- the members are these now, a process is heard, a tick passes
pub data Happening : Type 0 where
  Watches : Standings → Happening
  Hears : UniqueModel → Happening
  Ticks : Happening

abbrev pub after_one : UniqueModel → ℕ → Counters → Happening → Counters
after_one me deadline c (Watches s) = watching me s deadline c
after_one me deadline c (Hears who) = heard who c
after_one me deadline c Ticks = ticked deadline c

-- the counters after all of these, from these counters on, and from the start, where nobody is watched
abbrev pub listening : UniqueModel → ℕ → Counters → List Happening → Counters
listening me deadline c [] = c
listening me deadline c (h ∷ happenings) = listening me deadline (after_one me deadline c h) happenings

abbrev pub heard_of : UniqueModel → ℕ → List Happening → Counters
heard_of me deadline happenings = listening me deadline map.empty happenings

abbrev pub IsWatched : UniqueModel → ℕ → List Happening → UniqueModel → Type 0
IsWatched me deadline happenings who = IsTrue (map.contains_key (heard_of me deadline happenings) who)

abbrev pub IsSilent : UniqueModel → ℕ → List Happening → UniqueModel → Type 0
IsSilent me deadline happenings who = IsTrue (has (silent deadline (heard_of me deadline happenings)) who)

-- how many ticks are among these
abbrev pub ticks_in : List Happening → ℕ
ticks_in [] = 0
ticks_in (Watches s ∷ happenings) = ticks_in happenings
ticks_in (Hears who ∷ happenings) = ticks_in happenings
ticks_in (Ticks ∷ happenings) = ticks_in happenings + 1

-- a process begins to be watched with this, or is watched and heard with it
abbrev pub Begins : UniqueModel → ℕ → List Happening → Happening → UniqueModel → Type 0
Begins me deadline before h who =
    ((¬ IsWatched me deadline before who) × IsWatched me deadline (before ++ h ∷ []) who)
    ⊎ (IsWatched me deadline before who × (h ≡ Hears who))

-- Of what came, this one is the last with which a process began to be watched or was heard: in all that came since it stayed
-- watched, and was not heard.
pub record IsLast (me : UniqueModel) (deadline : ℕ) (before : List Happening) (h : Happening) (since : List Happening) (who : UniqueModel) : Type 0 where
  pub begins : Begins me deadline before h who
  pub stays : (some rest : List Happening) → since ≡ some ++ rest → IsWatched me deadline (before ++ h ∷ some) who
  pub unheard : Contains since (Hears who) → ⊥

-- there is such a last one
pub record HasLast (me : UniqueModel) (deadline : ℕ) (happenings : List Happening) (who : UniqueModel) : Type 0 where
  pub before : List Happening
  pub happening : Happening
  pub since : List Happening
  pub parts : happenings ≡ before ++ happening ∷ since
  pub last : IsLast me deadline before happening since who
