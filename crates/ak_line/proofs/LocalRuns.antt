-- Runs of moves of one kind in a step: packets that change nothing, nodes found finished, and shards freed of finished homes.
use Rattle.std.proofs.Common.{◌≡◌, ℕ, ◌⊎◌, inl, inr, List, [], ◌∷◌, true, Some, Contains, refl, sym, ap, ◌∙◌, subst}
use Rattle.ak_line.specs.Name.{Name}
use Rattle.ak_promise.specs.Ballot.{BallotModel}
use Rattle.ak_line.specs.Line.{Line}
use Rattle.ak_line.specs.Shards.{Home, Placement, put_at, freed}
use Rattle.ak_line.specs.Moves.{Node, Trial, Active, Said, Move, actor}
use Rattle.ak_line.specs.Local.{changed, Guard, AllLocal, changed_all}
use Rattle.ak_address.proofs.Elements.{contains_first, contains_rest, contains_nothing, first_or_rest}
use Rattle.ak_line.proofs.PlacedPuts.{at_put}

module _ {V : Type 0} (l : Line V) (above : BallotModel → BallotModel → Type 0) (heard : Name → Said V → Type 0) (stopped : Name → Type 0) (i : Name) where
  -- ---- moves that only say something, each by its guard at the node as it is
  pub record OnlySays (n : Node V) (m : Move V) : Type 0 where
    pub by : actor l above m ≡ i
    pub same : changed l above n m ≡ n
    pub guard : Guard l above heard stopped n m

  pub same_after_says : (n : Node V) (ms : List (Move V)) → ((m : Move V) → Contains ms m → OnlySays n m) → changed_all l above n ms ≡ n
  same_after_says n [] all = refl
  same_after_says n (m ∷ ms) all =
      let first = all m (contains_first m ms) in
      ap (λ x. changed_all l above x ms) first.same ∙ same_after_says n ms (λ k there. all k (contains_rest m k ms there))

  pub local_says : (n : Node V) (ms : List (Move V)) → n.runs ≡ true → ((m : Move V) → Contains ms m → OnlySays n m) → AllLocal l above heard stopped i n ms
  local_says n [] running all = tt
  local_says n (m ∷ ms) running all =
      let first = all m (contains_first m ms) in
      (first.by, running, first.guard, subst (λ x. AllLocal l above heard stopped i x ms) (sym first.same) (local_says n ms running (λ k there. all k (contains_rest m k ms there))))

  -- ---- nodes are found finished
  abbrev pub finds : List Name → List (Move V)
  finds [] = []
  finds (q ∷ qs) = Move.Find i q ∷ finds qs

  abbrev pub found : List Name → List Name → List Name
  found [] old = old
  found (q ∷ qs) old = found qs (q ∷ old)

  pub local_finds : (n : Node V) (qs : List Name) → n.runs ≡ true → l.on n.settled → ((q : Name) → Contains qs q → l.removed n.settled q × stopped q) → AllLocal l above heard stopped i n (finds qs)
  local_finds n [] running on all = tt
  local_finds n (q ∷ qs) running on all =
      let first = all q (contains_first q qs) in
      (refl, running, (on, first.0, first.1), local_finds (record n { finished = q ∷ n.finished }) qs running on (λ k there. all k (contains_rest q k qs there)))

  pub after_finds : (n : Node V) (qs : List Name) → changed_all l above n (finds qs) ≡ record n { finished = found qs n.finished }
  after_finds n [] = refl
  after_finds n (q ∷ qs) = after_finds (record n { finished = q ∷ n.finished }) qs

  -- ---- shards are freed of finished homes, each once
  abbrev pub frees : Trial V → List (ℕ × Home) → List (Move V)
  frees t [] = []
  frees t (pair ∷ pairs) = Move.Free i t pair.0 pair.1 ∷ frees t pairs

  abbrev pub freed_table : List (ℕ × Home) → (ℕ → Placement) → ℕ → Placement
  freed_table [] e = e
  freed_table (pair ∷ pairs) e = freed_table pairs (put_at pair.0 (freed (e pair.0)) e)

  -- no shard stands twice
  abbrev pub Apart : List (ℕ × Home) → Type 0
  Apart [] = Unit {0}
  Apart (pair ∷ pairs) = ((other : ℕ × Home) → Contains pairs other → other.0 ≡ pair.0 → ⊥) × Apart pairs

  pub local_frees : (n : Node V) (t : Trial V) (pairs : List (ℕ × Home)) → n.runs ≡ true → n.phase ≡ Active t → Apart pairs
      → ((pair : ℕ × Home) → Contains pairs pair → ((n.table pair.0).home ≡ Some pair.1) × (Contains n.finished pair.1.node ⊎ heard pair.1.node (Said.ShardStopped t.ballot pair.0 pair.1.number)))
      → AllLocal l above heard stopped i n (frees t pairs)
  local_frees n t [] running active apart all = tt
  local_frees n t (pair ∷ pairs) running active apart all =
      let first = all pair (contains_first pair pairs) in (
        refl,
        running,
        (active, first.0, first.1),
        local_frees (record n { table = put_at pair.0 (freed (n.table pair.0)) n.table }) t pairs running active apart.1
            (λ other there.
            let x = all other (contains_rest pair other pairs there) in
            (at_put (λ (e : Placement). e.home ≡ Some other.1) pair.0 (freed (n.table pair.0)) n.table other.0 (λ is. absurd (apart.0 other there is)) (λ differ. x.0), x.1)),
      )

  pub after_frees : (n : Node V) (t : Trial V) (pairs : List (ℕ × Home)) → changed_all l above n (frees t pairs) ≡ record n { table = freed_table pairs n.table }
  after_frees n t [] = refl
  after_frees n t (pair ∷ pairs) = after_frees (record n { table = put_at pair.0 (freed (n.table pair.0)) n.table }) t pairs

  -- a shard that is not among them keeps its placement
  pub freed_other : (pairs : List (ℕ × Home)) (e : ℕ → Placement) (s : ℕ) → ((pair : ℕ × Home) → Contains pairs pair → s ≡ pair.0 → ⊥) → freed_table pairs e s ≡ e s
  freed_other [] e s none = refl
  freed_other (pair ∷ pairs) e s none =
      freed_other pairs (put_at pair.0 (freed (e pair.0)) e) s (λ k there. none k (contains_rest pair k pairs there))
      ∙ at_put (λ x. x ≡ e s) pair.0 (freed (e pair.0)) e s (λ is. absurd (none pair (contains_first pair pairs) is)) (λ differ. refl)

  -- one that is has no home, and keeps its number
  pub freed_one : (pairs : List (ℕ × Home)) (e : ℕ → Placement) (pair : ℕ × Home) → Apart pairs → Contains pairs pair → freed_table pairs e pair.0 ≡ freed (e pair.0)
  freed_one [] e pair apart there = absurd (contains_nothing pair there)
  freed_one (first ∷ pairs) e pair apart there = elim (first_or_rest first pair pairs there) [
    | inl is ↦
        subst (λ (x : ℕ × Home). freed_table pairs (put_at first.0 (freed (e first.0)) e) x.0 ≡ freed (e x.0)) (sym is)
        (freed_other pairs (put_at first.0 (freed (e first.0)) e) first.0 (λ k inside same. apart.0 k inside (sym same))
        ∙ at_put (λ x. x ≡ freed (e first.0)) first.0 (freed (e first.0)) e first.0 (λ same. refl) (λ differ. absurd (differ refl)))
    | inr inside ↦
        freed_one pairs (put_at first.0 (freed (e first.0)) e) pair apart.1 inside
        ∙ ap freed (at_put (λ x. x ≡ e pair.0) first.0 (freed (e first.0)) e pair.0 (λ same. absurd (apart.0 pair inside same)) (λ differ. refl))
  ]
