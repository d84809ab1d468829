-- What is true of floors stays true where one node is changed so that it has its part of it, and where one packet more is sent.
use Rattle.std.proofs.Common.{◌≡◌, ℕ, ◌⊎◌, inl, inr, Option, Some, Contains, sym, ap, subst}
use Rattle.ak_line.specs.Name.{Name}
use Rattle.ak_promise.specs.Ballot.{BallotModel}
use Rattle.ak_line.specs.Line.{Line, IsLine, IsStrict}
use Rattle.ak_line.specs.Shards.{Mark}
use Rattle.ak_line.specs.Moves.{Node, Trial, Activation, Said, Ask, Granted, Released, HandedOver, Names, HostShard, HandOff, ShardStopped, Packet, Cluster, set, puts, says, IsLive}
use Rattle.ak_line.specs.Promised.{LivesIn, Lives, Promised}
use Rattle.ak_line.specs.Floors.{Follows, Floors}
use Rattle.ak_address.proofs.Elements.{first_or_rest}
use Rattle.ak_line.proofs.Puts.{at_set, from_set}
use Rattle.ak_line.proofs.Kept.{is_last}

module _ {V : Type 0} (l : Line V) (line : IsLine V l) (above : BallotModel → BallotModel → Type 0) (strict : IsStrict above) where
  -- while a ballot lives, nobody that promised it promised a greater one
  pub bound_live : (w : Cluster V) → Promised l above w → (x z : Name) (c d : BallotModel) → Lives l above w x c → Contains (w.node z).promised c → Contains (w.node z).promised d → above d c → ⊥
  bound_live w p x z c d lives has more higher = elim (is_last l line above strict w p z c (p.binds x z c lives has).0 d more) [
    | inl same ↦ strict.never_itself c (subst (λ b. above b c) same higher)
    | inr lower ↦ strict.never_itself c (strict.transitive c d c lower higher)
  ]

  -- one part for the changed node
  pub record FloorPut (w : Cluster V) (i : Name) (n : Node V) : Type 0 where
    pub acts : (a : Activation V) → n.activation ≡ Some a → ((w.node i).activation ≡ Some a) ⊎ LivesIn l above n a.ballot
    pub follows : (x : Name) (a : Activation V) → (w.node x).activation ≡ Some a → Contains n.promised a.ballot → Follows l above n a
    pub fresh : (b : BallotModel) → Contains n.promised b → Contains (w.node i).promised b ⊎ ((d : BallotModel) → Contains (w.node i).promised d → above b d)
    pub heard : (x z : Name) (a : Activation V) (t : Trial V) → (w.node x).activation ≡ Some a → IsLive l above n.phase t → Contains t.granted z → above t.ballot a.ballot → Contains (set l above i n w.node z).promised a.ballot → l.below a.latest t.floor

  module _ (w : Cluster V) (p : Promised l above w) (f : Floors l above w) (i : Name) (n : Node V)
      (fresh : (b : BallotModel) → Contains n.promised b → Contains (w.node i).promised b ⊎ ((d : BallotModel) → Contains (w.node i).promised d → above b d)) where
    pub promised_before : (z : Name) (b : BallotModel) → Contains (set l above i n w.node z).promised b → Contains (w.node z).promised b ⊎ ((d : BallotModel) → Contains (w.node z).promised d → above b d)
    promised_before z b has = elim (from_set l line above (λ m. Contains m.promised b) i n w.node z has) [
      | inl here ↦ subst (λ k. Contains (w.node k).promised b ⊎ ((d : BallotModel) → Contains (w.node k).promised d → above b d)) (sym here.0) (fresh b here.1)
      | inr there ↦ inl there.1
    ]

    -- of an asking that was there before
    pub heard_before : (x y z : Name) (a : Activation V) (t : Trial V) → (w.node x).activation ≡ Some a → IsLive l above (w.node y).phase t → Contains t.granted z → above t.ballot a.ballot → Contains (set l above i n w.node z).promised a.ballot → l.below a.latest t.floor
    heard_before x y z a t act live granted higher has = elim (promised_before z a.ballot has) [
      | inl before ↦ f.heard x y z a t act live granted higher before
      | inr new ↦ absurd (strict.never_itself t.ballot (strict.transitive t.ballot a.ballot t.ballot higher (new t.ballot (p.granters y z t live granted))))
    ]

  module _ (w : Cluster V) (p : Promised l above w) (f : Floors l above w) (i : Name) (n : Node V) (o : Option Name) (q : Promised l above (record (puts l above i n w) { latest = o })) (part : FloorPut w i n) where
    acts_before : (x : Name) (a : Activation V) → (set l above i n w.node x).activation ≡ Some a → ((y : Name) × ((w.node y).activation ≡ Some a)) ⊎ LivesIn l above (set l above i n w.node x) a.ballot
    acts_before x a = at_set l line above (λ m. m.activation ≡ Some a → ((y : Name) × ((w.node y).activation ≡ Some a)) ⊎ LivesIn l above m a.ballot) i n w.node x
        (λ is act. elim (part.acts a act) [ inl old ↦ inl (i, old) | inr live ↦ inr live ])
        (λ other act. inl (x, act))

    pub floors_put : Floors l above (record (puts l above i n w) { latest = o })
    floors_put = record {
      follows = λ x z a act. elim (acts_before x a act) [
        | inl old ↦ at_set l line above (λ m. Contains m.promised a.ballot → Follows l above m a) i n w.node z (λ is has. part.follows old.0 a old.1 has) (λ other has. f.follows old.0 z a old.1 has)
        | inr live ↦ λ has. inl (q.binds x z a.ballot live has)
      ];
      covered = λ x z a g act sent. elim (acts_before x a act) [
        | inl old ↦ f.covered old.0 z a g old.1 sent
        | inr live ↦ absurd (q.dead x z a.ballot g sent live)
      ];
      answered = λ x z a c g m act sent higher has. elim (acts_before x a act) [
        | inl old ↦ elim (promised_before w p f i n part.fresh z a.ballot has) [
          | inl before ↦ f.answered old.0 z a c g m old.1 sent higher before
          | inr new ↦ absurd (strict.never_itself c (strict.transitive c a.ballot c higher (new c (p.grants z c g m sent))))
        ]
        | inr live ↦ absurd (bound_live (record (puts l above i n w) { latest = o }) q x z a.ballot c live has (q.grants z c g m sent) higher)
      ];
      heard = λ x y z a t act live granted higher has. elim (acts_before x a act) [
        | inl old ↦ at_set l line above (λ m. IsLive l above m.phase t → l.below a.latest t.floor) i n w.node y
            (λ is here. part.heard old.0 z a t old.1 here granted higher has)
            (λ other there. heard_before w p f i n part.fresh old.0 y z a t old.1 there granted higher has) live
        | inr lives ↦ absurd (bound_live (record (puts l above i n w) { latest = o }) q x z a.ballot t.ballot lives has (q.granters y z t live granted) higher)
      ];
    }

  -- ---- one packet more
  module _ (w : Cluster V) (f : Floors l above w) (i : Name) (said : Said V)
      (covered : (x : Name) (a : Activation V) (g : V) → (w.node x).activation ≡ Some a → (said ≡ Released a.ballot g) ⊎ (said ≡ HandedOver a.ballot g) → l.below a.latest g)
      (answered : (x : Name) (a : Activation V) (c : BallotModel) (g : V) (m : ℕ → Mark) → (w.node x).activation ≡ Some a → said ≡ Granted c g m → above c a.ballot → Contains (w.node i).promised a.ballot → l.below a.latest g) where
    pub floors_said : Floors l above (says l above i said w)
    floors_said = record {
      follows = f.follows;
      covered = λ x z a g act sent. elim sent [
        | inl one ↦ elim (first_or_rest (record { from = i; said = said }) (record { from = z; said = Released a.ballot g }) w.packets one) [
          | inl is ↦ covered x a g act (inl (sym (ap (λ (k : Packet V). k.said) is)))
          | inr old ↦ f.covered x z a g act (inl old)
        ]
        | inr two ↦ elim (first_or_rest (record { from = i; said = said }) (record { from = z; said = HandedOver a.ballot g }) w.packets two) [
          | inl is ↦ covered x a g act (inr (sym (ap (λ (k : Packet V). k.said) is)))
          | inr old ↦ f.covered x z a g act (inr old)
        ]
      ];
      answered = λ x z a c g m act sent higher has. elim (first_or_rest (record { from = i; said = said }) (record { from = z; said = Granted c g m }) w.packets sent) [
        | inl is ↦ answered x a c g m act (sym (ap (λ (k : Packet V). k.said) is)) higher (subst (λ k. Contains (w.node k).promised a.ballot) (ap (λ (k : Packet V). k.from) is) has)
        | inr old ↦ f.answered x z a c g m act old higher has
      ];
      heard = f.heard;
    }

  -- what is neither a grant nor a release says nothing of floors
  abbrev pub IsPlain : Said V → Type 0
  IsPlain (Ask b) = Unit {0}
  IsPlain (Granted b g m) = ⊥
  IsPlain (Released b g) = ⊥
  IsPlain (HandedOver b g) = ⊥
  IsPlain (Names b) = Unit {0}
  IsPlain (HostShard b to s k) = Unit {0}
  IsPlain (HandOff b to s k) = Unit {0}
  IsPlain (ShardStopped b s k) = Unit {0}

  pub floors_plain : (w : Cluster V) → Floors l above w → (i : Name) (said : Said V) → IsPlain said → Floors l above (says l above i said w)
  floors_plain w f i said plain = floors_said w f i said
      (λ x a g act is. elim is [ inl one ↦ absurd (subst IsPlain one plain) | inr two ↦ absurd (subst IsPlain two plain) ])
      (λ x a c g m act is higher has. absurd (subst IsPlain is plain))
