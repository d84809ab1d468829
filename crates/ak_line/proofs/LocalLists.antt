-- Lists of moves of one node, one after the other: the rules of a step follow each other so. What was heard may be more.
use Rattle.std.proofs.Common.{◌≡◌, inl, inr, List, [], ◌∷◌, ◌++◌, refl}
use Rattle.ak_line.specs.Name.{Name}
use Rattle.ak_promise.specs.Ballot.{BallotModel}
use Rattle.ak_line.specs.Line.{Line}
use Rattle.ak_line.specs.Moves.{Node, Said, Move}
use Rattle.ak_line.specs.Local.{changed, Named, Guard, AllLocal, changed_all, Speaks}

module _ {V : Type 0} (l : Line V) (above : BallotModel → BallotModel → Type 0) where
  pub changed_append : (n : Node V) (ms ks : List (Move V)) → changed_all l above n (ms ++ ks) ≡ changed_all l above (changed_all l above n ms) ks
  changed_append n [] ks = refl
  changed_append n (m ∷ ms) ks = changed_append (changed l above n m) ms ks

  pub speaks_first : (n : Node V) (ms ks : List (Move V)) (said : Said V) → Speaks l above n ms said → Speaks l above n (ms ++ ks) said
  speaks_first n [] ks said none = absurd none
  speaks_first n (m ∷ ms) ks said (inl now) = inl now
  speaks_first n (m ∷ ms) ks said (inr later) = inr (speaks_first (changed l above n m) ms ks said later)

  pub speaks_then : (n : Node V) (ms ks : List (Move V)) (said : Said V) → Speaks l above (changed_all l above n ms) ks said → Speaks l above n (ms ++ ks) said
  speaks_then n [] ks said there = there
  speaks_then n (m ∷ ms) ks said there = inr (speaks_then (changed l above n m) ms ks said there)

  module _ (heard : Name → Said V → Type 0) (stopped : Name → Type 0) where
    pub local_append : (i : Name) (n : Node V) (ms ks : List (Move V)) → AllLocal l above heard stopped i n ms → AllLocal l above heard stopped i (changed_all l above n ms) ks → AllLocal l above heard stopped i n (ms ++ ks)
    local_append i n [] ks first then = then
    local_append i n (m ∷ ms) ks (by, running, guard, more) then = (by, running, guard, local_append i (changed l above n m) ms ks more then)

    -- ---- more was heard, and more have stopped
    module _ (heard_more : Name → Said V → Type 0) (stopped_more : Name → Type 0) (wider : (z : Name) (said : Said V) → heard z said → heard_more z said) (longer : (q : Name) → stopped q → stopped_more q) where
      named_more : (b : BallotModel) → Named l above heard stopped b → Named l above heard_more stopped_more b
      named_more b (z, said, there, is) = (z, said, wider z said there, is)

      pub guard_more : (n : Node V) (m : Move V) → Guard l above heard stopped n m → Guard l above heard_more stopped_more n m
      guard_more n (Move.Start i) g = g
      guard_more n (Move.Stop i) g = g
      guard_more n (Move.Note i v) g = g
      guard_more n (Move.Find i q) g = (g.0, g.1, longer q g.2)
      guard_more n (Move.Promise i b) g = (wider b.unique _ g.0, g.1, g.2)
      guard_more n (Move.Repeat i b) g = g
      guard_more n (Move.Open i c) g = g
      guard_more n (Move.Reopen i t c) g = g
      guard_more n (Move.Close i t p) g = g
      guard_more n (Move.Retire i) g = g
      guard_more n (Move.Accept i t z f r e) g = (g.0, wider z _ g.1, g.2, g.3, g.4)
      guard_more n (Move.Activate i t) g = g
      guard_more n (Move.Solicit i t) g = g
      guard_more n (Move.HandOver i h) g = (g.0, named_more h g.1, g.2)
      guard_more n (Move.Pass i h f) g = (g.0, wider g.0 _ g.1)
      guard_more n (Move.Release i h f) g = (g.0, (g.1.0, elim g.1.1 [ inl one ↦ inl (wider g.1.0 _ one) | inr two ↦ inr (wider g.1.0 _ two) ]))
      guard_more n (Move.Say i b) g = elim g [ inl last ↦ inl last | inr named ↦ inr (named_more b named) ]
      guard_more n (Move.Assign i t s r) g = g
      guard_more n (Move.Free i t s h) g = (g.0, g.1, elim g.2 [ inl finished ↦ inl finished | inr there ↦ inr (wider h.node _ there) ])
      guard_more n (Move.Order i t s h) g = g
      guard_more n (Move.Recall i t s h) g = g
      guard_more n (Move.Host i b s m) g = (g.0, (g.1.0, wider g.1.0 _ g.1.1), g.2, g.3)
      guard_more n (Move.Yield i b s m) g = (g.0, (g.1.0, wider g.1.0 _ g.1.1))
      guard_more n (Move.Confirm i b s m) g = g

      pub local_more : (i : Name) (n : Node V) (ms : List (Move V)) → AllLocal l above heard stopped i n ms → AllLocal l above heard_more stopped_more i n ms
      local_more i n [] all = tt
      local_more i n (m ∷ ms) (by, running, guard, more) = (by, running, guard_more n m guard, local_more i (changed l above n m) ms more)
