-- What is said of machines that are made ready is said of the machines.
use Rattle.std.proofs.Common.{◌≡◌, ◌↔◌, inl, inr, ℕ, List, Option, None, Some, refl, subst}
use Rattle.fst_semiring.specs.Cost.{Cost}
use Rattle.fst_semiring.specs.declared.arc_type.ArcType.{ArcType}
use Rattle.fst_machine.specs.Graph.{Graph, graph_of}
use Rattle.fst_machine.specs.Machine.{Machine}
use Rattle.fst_machine.proofs.OneMachine.{one_connected}
use Rattle.fst_trim.specs.FirstArcs.{IsDeterministic}
use Rattle.fst_trim.specs.WordWeights.{IsSingle, IsWordWeight, SameWords, WordWeighs}
use Rattle.fst_setops.specs.Readied.{IsReadied}
use Rattle.fst_setops.specs.Separating.{HasMorePairs, IsPair, LeadsIn, LeadsTo, Pair}
use Rattle.fst_setops.specs.Verdicts.{HasMoreConnectedPairs, IsSaid}
use Rattle.fst_setops.specs.Ways.{AscendsStrictly}
use Rattle.fst_setops.specs.declared.verdict.Verdict.{Verdict}
use Rattle.fst_setops.specs.declared.verdict.Verdict.TheVariants.{Equivalent, Separated}
use Rattle.fst_setops.proofs.Led.{one_weight}
use Rattle.fst_setops.proofs.Readied.{IsKnownReady, known_ready}

-- word weights by which words weigh
weight_there : {N M : Type 0} (kind : ArcType) (g : Graph N) (h : Graph M) → ((w : List ℕ) (v : Cost) → WordWeighs kind g w v ↔ WordWeighs kind h w v) → (w : List ℕ) (v : Cost) → IsWordWeight kind g w v → IsWordWeight kind h w v
weight_there kind g h same w v (inl k) = inl ((same w v).0 k)
weight_there kind g h same w v (inr none) = inr ((λ u k. none.0 u ((same w u).1 k)), none.1)

-- words lead to the same states
leads_in : (g h : Graph ℕ) → ((w : List ℕ) (p : ℕ) → LeadsTo g w p ↔ LeadsTo h w p) → (w : List ℕ) (s : Option ℕ) → LeadsIn g w s → LeadsIn h w s
leads_in g h same w (Some p) l = (same w p).0 l
leads_in g h same w None none = λ p l. none p ((same w p).1 l)

module _ (kind : ArcType) (a b c d : Machine Cost) (first : IsReadied a c) (second : IsReadied b d) (none_a : IsDeterministic a) (none_b : IsDeterministic b) where
  known_first : IsKnownReady kind a first.connected c
  known_first = known_ready kind a first.connected c none_a first.connects first.ordered

  known_second : IsKnownReady kind b second.connected d
  known_second = known_ready kind b second.connected d none_b second.connects second.ordered

  there_first : (w : List ℕ) (v : Cost) → IsWordWeight kind (graph_of a) w v → IsWordWeight kind (graph_of c) w v
  there_first = weight_there kind (graph_of a) (graph_of c) known_first.words

  back_first : (w : List ℕ) (v : Cost) → IsWordWeight kind (graph_of c) w v → IsWordWeight kind (graph_of a) w v
  back_first = weight_there kind (graph_of c) (graph_of a) (λ w v. ((known_first.words w v).1, (known_first.words w v).0))

  there_second : (w : List ℕ) (v : Cost) → IsWordWeight kind (graph_of b) w v → IsWordWeight kind (graph_of d) w v
  there_second = weight_there kind (graph_of b) (graph_of d) known_second.words

  back_second : (w : List ℕ) (v : Cost) → IsWordWeight kind (graph_of d) w v → IsWordWeight kind (graph_of b) w v
  back_second = weight_there kind (graph_of d) (graph_of b) (λ w v. ((known_second.words w v).1, (known_second.words w v).0))

  -- the verdict
  pub said_back : {V X : Type 0} (value : X → Cost) (v : Verdict V X) → IsSaid kind value (graph_of c) (graph_of d) v → IsSaid kind value (graph_of a) (graph_of b) v
  said_back value Equivalent same = λ w v. ((λ k. back_second w v ((same w v).0 (there_first w v k))), (λ k. back_first w v ((same w v).1 (there_second w v k))))
  said_back value (Separated word one other) s = record {
    separates = record { first = back_first word (value one) s.separates.first; second = back_second word (value other) s.separates.second; differ = s.separates.differ };
    least = λ y t u k. s.least y t u (record { first = there_first y t k.first; second = there_second y u k.second; differ = k.differ });
  }

  pair_back : (p : Pair ℕ ℕ) → IsPair (graph_of c) (graph_of d) p → IsPair (graph_of first.connected) (graph_of second.connected) p
  pair_back p k = record {
    word = k.word;
    first = leads_in (graph_of c) (graph_of first.connected) (λ w q. ((known_first.leads w q).1, (known_first.leads w q).0)) k.word p.first k.first;
    second = leads_in (graph_of d) (graph_of second.connected) (λ w q. ((known_second.leads w q).1, (known_second.leads w q).0)) k.word p.second k.second;
    some = k.some;
  }

  pair_there : (p : Pair ℕ ℕ) → IsPair (graph_of first.connected) (graph_of second.connected) p → IsPair (graph_of c) (graph_of d) p
  pair_there p k = record {
    word = k.word;
    first = leads_in (graph_of first.connected) (graph_of c) known_first.leads k.word p.first k.first;
    second = leads_in (graph_of second.connected) (graph_of d) known_second.leads k.word p.second k.second;
    some = k.some;
  }

  -- and the number of pairs
  pub more_back : (limit : ℕ) → HasMorePairs (graph_of c) (graph_of d) limit → HasMoreConnectedPairs a b limit
  more_back limit m = record {
    first = first.connected;
    second = second.connected;
    first_connected = first.connects;
    second_connected = second.connects;
    more = record { pairs = m.pairs; apart = m.apart; led = λ p has. pair_back p (m.led p has); more = m.more };
  }

  pub more_there : (limit : ℕ) → HasMoreConnectedPairs a b limit → HasMorePairs (graph_of c) (graph_of d) limit
  more_there limit m =
      let one = one_connected a m.first first.connected m.first_connected first.connects in
      let two = one_connected b m.second second.connected m.second_connected second.connects in
      let moved : HasMorePairs (graph_of first.connected) (graph_of second.connected) limit =
      subst (λ (x : Machine Cost). HasMorePairs (graph_of x) (graph_of second.connected) limit) one (subst (λ (x : Machine Cost). HasMorePairs (graph_of m.first) (graph_of x) limit) two m.more) in
      record { pairs = moved.pairs; apart = moved.apart; led = λ p has. pair_there p (moved.led p has); more = moved.more }

  pub ready_ascends : ((p : ℕ) → AscendsStrictly ((graph_of c).arcs p)) × ((p : ℕ) → AscendsStrictly ((graph_of d).arcs p))
  ready_ascends = (known_first.ascends, known_second.ascends)

-- where acceptors are said to be equivalent each word has the same weight, and nowhere else
pub said_same : {V X N M : Type 0} (kind : ArcType) (value : X → Cost) (g : Graph N) (h : Graph M) → IsSingle h → (v : Verdict V X) → IsSaid kind value g h v → (v ≡ Equivalent) ↔ SameWords kind g h
said_same kind value g h single Equivalent same = ((λ e. same), (λ k. refl))
said_same kind value g h single (Separated word one other) s = (
  (λ e. absurd (cc)),
  (λ same. absurd (s.separates.differ (one_weight kind h single word (value one) (value other) ((same word (value one)).0 s.separates.first) s.separates.second))),
)
