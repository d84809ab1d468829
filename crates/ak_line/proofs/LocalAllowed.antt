-- A list of moves of one node, by its own guards, is allowed in each world in which what it heard was said.
use Rattle.std.proofs.Common.{◌≡◌, true, false, inl, inr, List, [], ◌∷◌, Some, None, Contains, refl, sym, ap, ◌∙◌, subst, true≢false}
use Rattle.std.proofs.lemmas.Option.{same_Some}
use Rattle.ak_promise.specs.Ballot.{BallotModel}
use Rattle.ak_line.specs.Line.{Line, IsLine}
use Rattle.ak_line.specs.Name.{Name}
use Rattle.ak_line.specs.Moves.{Node, Said, Packet, Cluster, Move, ballot_of, actor, set, Sent, Allowed, after, AllAllowed, after_all}
use Rattle.ak_line.specs.Local.{changed, spoken, Named, Guard, AllLocal, changed_all, Speaks}
use Rattle.ak_address.proofs.Elements.{contains_first, contains_rest}
use Rattle.ak_line.proofs.Puts.{at_set}

module _ {V : Type 0} (l : Line V) (line : IsLine V l) (above : BallotModel → BallotModel → Type 0) where
  set_here : (i : Name) (n : Node V) (nodes : Name → Node V) → set l above i n nodes i ≡ n
  set_here i n nodes = at_set l line above (λ m. m ≡ n) i n nodes i (λ is. refl) (λ other. absurd (other refl))

  set_other : (i : Name) (n : Node V) (nodes : Name → Node V) (j : Name) → (j ≡ i → ⊥) → set l above i n nodes j ≡ nodes j
  set_other i n nodes j other = at_set l line above (λ m. m ≡ nodes j) i n nodes j (λ is. absurd (other is)) (λ apart. refl)

  -- ---- a move changes its node alone
  pub after_node : (w : Cluster V) (m : Move V) → (after l above w m).node (actor l above m) ≡ changed l above (w.node (actor l above m)) m
  after_node w (Move.Start i) = set_here i _ w.node
  after_node w (Move.Stop i) = set_here i _ w.node
  after_node w (Move.Note i v) = set_here i _ w.node
  after_node w (Move.Find i q) = set_here i _ w.node
  after_node w (Move.Promise i b) = set_here i _ w.node
  after_node w (Move.Repeat i b) = refl
  after_node w (Move.Open i c) = set_here i _ w.node
  after_node w (Move.Reopen i t c) = set_here i _ w.node
  after_node w (Move.Close i t p) = set_here i _ w.node
  after_node w (Move.Retire i) = set_here i _ w.node
  after_node w (Move.Accept i t z f r e) = set_here i _ w.node
  after_node w (Move.Activate i t) = set_here i _ w.node
  after_node w (Move.Solicit i t) = refl
  after_node w (Move.HandOver i h) = refl
  after_node w (Move.Pass i h f) = refl
  after_node w (Move.Release i h f) = set_here i _ w.node
  after_node w (Move.Say i b) = refl
  after_node w (Move.Assign i t s r) = set_here i _ w.node
  after_node w (Move.Free i t s h) = set_here i _ w.node
  after_node w (Move.Order i t s h) = refl
  after_node w (Move.Recall i t s h) = refl
  after_node w (Move.Host i b s m) = set_here i _ w.node
  after_node w (Move.Yield i b s m) = set_here i _ w.node
  after_node w (Move.Confirm i b s m) = refl

  pub after_other : (w : Cluster V) (m : Move V) (j : Name) → (j ≡ actor l above m → ⊥) → (after l above w m).node j ≡ w.node j
  after_other w (Move.Start i) j other = set_other i _ w.node j other
  after_other w (Move.Stop i) j other = set_other i _ w.node j other
  after_other w (Move.Note i v) j other = set_other i _ w.node j other
  after_other w (Move.Find i q) j other = set_other i _ w.node j other
  after_other w (Move.Promise i b) j other = set_other i _ w.node j other
  after_other w (Move.Repeat i b) j other = refl
  after_other w (Move.Open i c) j other = set_other i _ w.node j other
  after_other w (Move.Reopen i t c) j other = set_other i _ w.node j other
  after_other w (Move.Close i t p) j other = set_other i _ w.node j other
  after_other w (Move.Retire i) j other = set_other i _ w.node j other
  after_other w (Move.Accept i t z f r e) j other = set_other i _ w.node j other
  after_other w (Move.Activate i t) j other = set_other i _ w.node j other
  after_other w (Move.Solicit i t) j other = refl
  after_other w (Move.HandOver i h) j other = refl
  after_other w (Move.Pass i h f) j other = refl
  after_other w (Move.Release i h f) j other = set_other i _ w.node j other
  after_other w (Move.Say i b) j other = refl
  after_other w (Move.Assign i t s r) j other = set_other i _ w.node j other
  after_other w (Move.Free i t s h) j other = set_other i _ w.node j other
  after_other w (Move.Order i t s h) j other = refl
  after_other w (Move.Recall i t s h) j other = refl
  after_other w (Move.Host i b s m) j other = set_other i _ w.node j other
  after_other w (Move.Yield i b s m) j other = set_other i _ w.node j other
  after_other w (Move.Confirm i b s m) j other = refl

  -- ---- what is sent
  one_more : (w : Cluster V) (i : Name) (said : Said V) (p : Packet V) → Contains w.packets p → Contains (record { from = i; said = said } ∷ w.packets) p
  one_more w i said p there = contains_rest (record { from = i; said = said }) p w.packets there

  pub after_sent : (w : Cluster V) (m : Move V) (p : Packet V) → Contains w.packets p → Contains (after l above w m).packets p
  after_sent w (Move.Start i) p there = there
  after_sent w (Move.Stop i) p there = there
  after_sent w (Move.Note i v) p there = there
  after_sent w (Move.Find i q) p there = there
  after_sent w (Move.Promise i b) p there = one_more w i _ p there
  after_sent w (Move.Repeat i b) p there = one_more w i _ p there
  after_sent w (Move.Open i c) p there = there
  after_sent w (Move.Reopen i t c) p there = there
  after_sent w (Move.Close i t x) p there = one_more w i _ p there
  after_sent w (Move.Retire i) p there = there
  after_sent w (Move.Accept i t z f r e) p there = there
  after_sent w (Move.Activate i t) p there = there
  after_sent w (Move.Solicit i t) p there = one_more w i _ p there
  after_sent w (Move.HandOver i h) p there = one_more w i _ p there
  after_sent w (Move.Pass i h f) p there = one_more w i _ p there
  after_sent w (Move.Release i h f) p there = there
  after_sent w (Move.Say i b) p there = one_more w i _ p there
  after_sent w (Move.Assign i t s r) p there = there
  after_sent w (Move.Free i t s h) p there = there
  after_sent w (Move.Order i t s h) p there = one_more w i _ p there
  after_sent w (Move.Recall i t s h) p there = one_more w i _ p there
  after_sent w (Move.Host i b s m) p there = there
  after_sent w (Move.Yield i b s m) p there = there
  after_sent w (Move.Confirm i b s m) p there = one_more w i _ p there

  new_one : (w : Cluster V) (i : Name) (x said : Said V) → Some x ≡ Some said → Contains (record { from = i; said = x } ∷ w.packets) (record { from = i; said = said })
  new_one w i x said is = subst (λ y. Contains (record { from = i; said = x } ∷ w.packets) (record { from = i; said = y })) (same_Some x said is) (contains_first (record { from = i; said = x }) w.packets)

  none_said : (said : Said V) → None ≡ Some said → ⊥
  none_said said is = absurd (cc)

  pub after_spoken : (w : Cluster V) (m : Move V) (said : Said V) → spoken l above (w.node (actor l above m)) m ≡ Some said → Sent l above (after l above w m) (actor l above m) said
  after_spoken w (Move.Start i) said is = absurd (none_said said is)
  after_spoken w (Move.Stop i) said is = absurd (none_said said is)
  after_spoken w (Move.Note i v) said is = absurd (none_said said is)
  after_spoken w (Move.Find i q) said is = absurd (none_said said is)
  after_spoken w (Move.Promise i b) said is = new_one w i _ said is
  after_spoken w (Move.Repeat i b) said is = new_one w i _ said is
  after_spoken w (Move.Open i c) said is = absurd (none_said said is)
  after_spoken w (Move.Reopen i t c) said is = absurd (none_said said is)
  after_spoken w (Move.Close i t x) said is = new_one w i _ said is
  after_spoken w (Move.Retire i) said is = absurd (none_said said is)
  after_spoken w (Move.Accept i t z f r e) said is = absurd (none_said said is)
  after_spoken w (Move.Activate i t) said is = absurd (none_said said is)
  after_spoken w (Move.Solicit i t) said is = new_one w i _ said is
  after_spoken w (Move.HandOver i h) said is = new_one w i _ said is
  after_spoken w (Move.Pass i h f) said is = new_one w i _ said is
  after_spoken w (Move.Release i h f) said is = absurd (none_said said is)
  after_spoken w (Move.Say i b) said is = new_one w i _ said is
  after_spoken w (Move.Assign i t s r) said is = absurd (none_said said is)
  after_spoken w (Move.Free i t s h) said is = absurd (none_said said is)
  after_spoken w (Move.Order i t s h) said is = new_one w i _ said is
  after_spoken w (Move.Recall i t s h) said is = new_one w i _ said is
  after_spoken w (Move.Host i b s m) said is = absurd (none_said said is)
  after_spoken w (Move.Yield i b s m) said is = absurd (none_said said is)
  after_spoken w (Move.Confirm i b s m) said is = new_one w i _ said is

  module _ (heard : Name → Said V → Type 0) (stopped : Name → Type 0) where
    named_then : (w : Cluster V) → ((z : Name) (said : Said V) → heard z said → Sent l above w z said) → (b : BallotModel) → Named l above heard stopped b → (p : Packet V) × Contains w.packets p × (ballot_of p.said ≡ b)
    named_then w sent b (z, said, there, is) = (record { from = z; said = said }, sent z said there, is)

    -- ---- a guard of the node is that of the world
    pub guard_allowed : (w : Cluster V) → ((z : Name) (said : Said V) → heard z said → Sent l above w z said) → ((q : Name) → stopped q → (w.node q).runs ≡ false)
        → (m : Move V) → (w.node (actor l above m)).runs ≡ true → Guard l above heard stopped (w.node (actor l above m)) m → Allowed l above w m
    guard_allowed w sent rests (Move.Start i) running g = absurd g
    guard_allowed w sent rests (Move.Stop i) running g = running
    guard_allowed w sent rests (Move.Note i v) running g = (running, g.0, g.1, g.2)
    guard_allowed w sent rests (Move.Find i q) running g = (running, g.0, g.1, rests q g.2)
    guard_allowed w sent rests (Move.Promise i b) running g = (running, sent b.unique _ g.0, g.1, g.2)
    guard_allowed w sent rests (Move.Repeat i b) running g = (running, g.0, g.1)
    guard_allowed w sent rests (Move.Open i c) running g = (running, g.0, g.1, g.2, g.3, g.4)
    guard_allowed w sent rests (Move.Reopen i t c) running g = (running, g.0, g.1, g.2)
    guard_allowed w sent rests (Move.Close i t p) running g = (running, g)
    guard_allowed w sent rests (Move.Retire i) running g = (running, g)
    guard_allowed w sent rests (Move.Accept i t z f r e) running g = (running, g.0, sent z _ g.1, g.2, g.3, g.4)
    guard_allowed w sent rests (Move.Activate i t) running g = (running, g.0, g.1, g.2, g.3)
    guard_allowed w sent rests (Move.Solicit i t) running g = (running, g)
    guard_allowed w sent rests (Move.HandOver i h) running g = (running, g.0, named_then w sent h g.1, g.2)
    guard_allowed w sent rests (Move.Pass i h f) running g = (running, g.0, sent g.0 _ g.1)
    guard_allowed w sent rests (Move.Release i h f) running g = (running, g.0, (g.1.0, elim g.1.1 [ inl one ↦ inl (sent g.1.0 _ one) | inr two ↦ inr (sent g.1.0 _ two) ]))
    guard_allowed w sent rests (Move.Say i b) running g = (running, elim g [ inl last ↦ inl last | inr named ↦ inr (named_then w sent b named) ])
    guard_allowed w sent rests (Move.Assign i t s r) running g = (running, g.0, g.1, g.2, g.3)
    guard_allowed w sent rests (Move.Free i t s h) running g = (running, g.0, g.1, elim g.2 [ inl finished ↦ inl finished | inr there ↦ inr (sent h.node _ there) ])
    guard_allowed w sent rests (Move.Order i t s h) running g = (running, g.0, g.1)
    guard_allowed w sent rests (Move.Recall i t s h) running g = (running, g.0, g.1)
    guard_allowed w sent rests (Move.Host i b s m) running g = (running, g.0, (g.1.0, sent g.1.0 _ g.1.1), g.2, g.3)
    guard_allowed w sent rests (Move.Yield i b s m) running g = (running, g.0, (g.1.0, sent g.1.0 _ g.1.1))
    guard_allowed w sent rests (Move.Confirm i b s m) running g = (running, g.0, g.1, g.2)

    -- ---- and so of lists
    pub record Moved (w : Cluster V) (i : Name) (ms : List (Move V)) : Type 0 where
      pub allowed : AllAllowed l above w ms
      pub here : (after_all l above w ms).node i ≡ changed_all l above (w.node i) ms
      pub others : (j : Name) → (j ≡ i → ⊥) → (after_all l above w ms).node j ≡ w.node j
      pub before : (p : Packet V) → Contains w.packets p → Contains (after_all l above w ms).packets p
      pub said : (said : Said V) → Speaks l above (w.node i) ms said → Sent l above (after_all l above w ms) i said

    pub moved : (w : Cluster V) → ((z : Name) (said : Said V) → heard z said → Sent l above w z said) → ((q : Name) → stopped q → (w.node q).runs ≡ false)
        → (i : Name) (ms : List (Move V)) → AllLocal l above heard stopped i (w.node i) ms → Moved w i ms
    moved w sent rests i [] local = record { allowed = tt; here = refl; others = λ j other. refl; before = λ p there. there; said = λ said none. absurd none }
    moved w sent rests i (m ∷ ms) (by, running, guard, more) =
        let v : Cluster V = after l above w m in
        let here : v.node i ≡ changed l above (w.node i) m = subst (λ j. v.node j ≡ changed l above (w.node j) m) by (after_node w m) in
        let others : (j : Name) → (j ≡ i → ⊥) → v.node j ≡ w.node j = λ j other. after_other w m j (λ is. other (is ∙ by)) in
        let still : (q : Name) → stopped q → (v.node q).runs ≡ false = λ q s. ap (λ (n : Node V). n.runs) (others q (λ is. true≢false (sym running ∙ subst (λ j. (w.node j).runs ≡ false) is (rests q s)))) ∙ rests q s in
        let rest = moved v (λ z said there. after_sent w m _ (sent z said there)) still i ms (subst (λ n. AllLocal l above heard stopped i n ms) (sym here) more) in
        record {
          allowed = (guard_allowed w sent rests m (subst (λ j. (w.node j).runs ≡ true) (sym by) running) (subst (λ j. Guard l above heard stopped (w.node j) m) (sym by) guard), rest.allowed);
          here = rest.here ∙ ap (λ n. changed_all l above n ms) here;
          others = λ j other. rest.others j other ∙ others j other;
          before = λ p there. rest.before p (after_sent w m p there);
          said = λ said says. elim says [
            | inl now ↦ rest.before _ (subst (λ j. Sent l above v j said) by (after_spoken w m said (subst (λ j. spoken l above (w.node j) m ≡ Some said) (sym by) now)))
            | inr later ↦ rest.said said (subst (λ n. Speaks l above n ms said) (sym here) later)
          ];
        }
