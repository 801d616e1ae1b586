-- What one better value does to a search, and what holds as a state is taken, as a round ends and as the last one ends.
use Rattle.std.proofs.Common.{◌≡◌, ◌⊎◌, inl, inr, ℕ, ◌≤◌, suc, List, [], ◌∷◌, Option, None, Some, length, sym, refl, ap, ◌∙◌, subst, arith}
use Rattle.std.proofs.lemmas.Bool.{cases_eq}
use Rattle.fst_semiring.specs.Cost.{Cost, best, finite, infinite}
use Rattle.fst_semiring.specs.declared.arc_type.ArcType.{ArcType}
use Rattle.fst_semiring.specs.Semiring.{times}
use Rattle.fst_semiring.proofs.Order.{plus_same, plus_trans}
use Rattle.fst_semiring.proofs.Laws.{one_times, times_assoc, times_keeps, times_only_zero, times_zero, one_not_zero}
use Rattle.fst_machine.specs.BreadthFirst.{Has}
use Rattle.fst_machine.specs.Distance.{IsLeast}
use Rattle.fst_machine.specs.declared.path.Step.{Step}
use Rattle.fst_search.specs.Hops.{Hop, NoWorse, Better, Arrives, IsBack, IsNet, hops_product, value_by}
use Rattle.fst_search.specs.Searching.{Linked, Round, Tentative, step_of}
use Rattle.fst_search.proofs.Order.{after_infinite, before_infinite, better_finite, better_no_worse, better_then, then_better}
use Rattle.fst_search.proofs.Chains.{cycles_improve}

pub infinite_or_not : (c : Cost) → (c ≡ infinite) ⊎ (c ≡ infinite → ⊥)
infinite_or_not best = inr (λ e. cc)
infinite_or_not (finite a b) = inr (λ e. cc)
infinite_or_not infinite = inl refl

-- One state gets a better value and with it the hop that gave it; all others stay.
pub record Improves (D E : ℕ → Cost) (L M : ℕ → Option Step) (h : Hop) (v : Cost) : Type 0 where
  pub better : Better v (D h.to)
  pub here : E h.to ≡ v
  pub linked : M h.to ≡ Some (step_of h)
  pub others : (q : ℕ) → (q ≡ h.to → ⊥) → (E q ≡ D q) × (M q ≡ L q)

pub improved_no_worse : (D E : ℕ → Cost) (L M : ℕ → Option Step) (h : Hop) (v : Cost) → Improves D E L M h v → (q : ℕ) → NoWorse (E q) (D q)
improved_no_worse D E L M h v i q = by_place (cases_eq q h.to)
  where
    by_place : (q ≡ h.to) ⊎ (q ≡ h.to → ⊥) → NoWorse (E q) (D q)
    by_place (inl e) = subst (λ (z : ℕ). NoWorse (E z) (D z)) (sym e) (subst (λ z. NoWorse z (D h.to)) (sym i.here) (better_no_worse v (D h.to) i.better))
    by_place (inr other) = subst (λ z. NoWorse z (D q)) (sym (i.others q other).0) (plus_same (D q))

module _ (kind : ArcType) (Goes : Hop → Type 0) (source : ℕ → Cost) where
  -- one hop more behind those that lead to its beginning
  pub arrives_on : (h : Hop) (so_far v : Cost) → Goes h → v ≡ times kind h.weight so_far → Arrives kind Goes source h.from so_far → Arrives kind Goes source h.to v
  arrives_on h so_far v goes is a = record {
    back = h ∷ a.back;
    first = a.first;
    leads = (goes, refl, a.leads);
    begins = a.begins;
    weight = is ∙ (ap (times kind h.weight) a.weight ∙ sym (times_assoc kind h.weight (hops_product kind a.back) (source a.first)));
  }

  -- paths have values that are not Zero
  value_finite : (n : ℕ) → IsNet Goes n → (back : List Hop) (q p : ℕ) → IsBack Goes q back p → hops_product kind back ≡ infinite → ⊥
  value_finite n net [] q p leads e = one_not_zero kind e
  value_finite n net (h ∷ back) q p leads e = by_factor (value_finite n net back h.from p leads.2) (times_only_zero kind h.weight (hops_product kind back) e)
    where
      by_factor : (hops_product kind back ≡ infinite → ⊥) → (h.weight ≡ infinite) ⊎ (hops_product kind back ≡ infinite) → ⊥
      by_factor rest (inl zero_hop) = net.solid h leads.0 zero_hop
      by_factor rest (inr zero_rest) = rest zero_rest

  pub arrives_finite : (n : ℕ) → IsNet Goes n → (q : ℕ) (w : Cost) → Arrives kind Goes source q w → w ≡ infinite → ⊥
  arrives_finite n net q w a e = by_factor (times_only_zero kind (hops_product kind a.back) (source a.first) (sym a.weight ∙ e))
    where
      by_factor : (hops_product kind a.back ≡ infinite) ⊎ (source a.first ≡ infinite) → ⊥
      by_factor (inl zero_hops) = value_finite n net a.back q a.first a.leads zero_hops
      by_factor (inr zero_source) = a.begins zero_source

  pub tentative_improves : (n : ℕ) → IsNet Goes n → (D E : ℕ → Cost) (L M : ℕ → Option Step) (h : Hop) (v so_far : Cost) → Goes h
      → v ≡ times kind h.weight so_far → NoWorse (D h.from) so_far → (so_far ≡ infinite) ⊎ Arrives kind Goes source h.from so_far
      → Tentative kind Goes source D L → Improves D E L M h v → Tentative kind Goes source E M
  tentative_improves n net D E L M h v so_far goes is kept arrives t i = record {
    begins = λ q. plus_trans (E q) (D q) (source q) (no_worse q) (t.begins q);
    reached = λ q. reached_at q (cases_eq q h.to);
    origin = λ q. origin_at q (cases_eq q h.to);
    cycles = cycles_improve kind Goes n net source D L M t h goes i.linked (λ q other. (i.others q other).1) so_far v kept is i.better;
  }
    where
      no_worse : (q : ℕ) → NoWorse (E q) (D q)
      no_worse = improved_no_worse D E L M h v i

      new_arrives : (so_far ≡ infinite) ⊎ Arrives kind Goes source h.from so_far → Arrives kind Goes source h.to v
      new_arrives (inl e) = absurd (better_finite v (D h.to) i.better (is ∙ (ap (times kind h.weight) e ∙ times_zero kind h.weight)))
      new_arrives (inr a) = arrives_on h so_far v goes is a

      reached_old : (q : ℕ) → (E q ≡ D q) × (M q ≡ L q) → ((D q ≡ infinite) × (L q ≡ None)) ⊎ Arrives kind Goes source q (D q) → ((E q ≡ infinite) × (M q ≡ None)) ⊎ Arrives kind Goes source q (E q)
      reached_old q same (inl none) = inl (same.0 ∙ none.0, same.1 ∙ none.1)
      reached_old q same (inr a) = inr (subst (Arrives kind Goes source q) (sym same.0) a)

      reached_at : (q : ℕ) → (q ≡ h.to) ⊎ (q ≡ h.to → ⊥) → ((E q ≡ infinite) × (M q ≡ None)) ⊎ Arrives kind Goes source q (E q)
      reached_at q (inl e) = inr (subst (λ (z : ℕ). Arrives kind Goes source z (E z)) (sym e) (subst (Arrives kind Goes source h.to) (sym i.here) (new_arrives arrives)))
      reached_at q (inr other) = reached_old q (i.others q other) (t.reached q)

      origin_old : (q : ℕ) → (E q ≡ D q) × (M q ≡ L q) → ((L q ≡ None) × (D q ≡ source q)) ⊎ ((k : Hop) × Linked Goes L q k × NoWorse (times kind k.weight (D k.from)) (D q))
          → ((M q ≡ None) × (E q ≡ source q)) ⊎ ((k : Hop) × Linked Goes M q k × NoWorse (times kind k.weight (E k.from)) (E q))
      origin_old q same (inl none) = inl (same.1 ∙ none.0, same.0 ∙ none.1)
      origin_old q same (inr (k, linked, bound)) = inr (
        k,
        (same.1 ∙ linked.0, linked.1, linked.2),
        subst (λ z. NoWorse (times kind k.weight (E k.from)) z) (sym same.0) (plus_trans _ (times kind k.weight (D k.from)) (D q) (times_keeps kind k.weight (E k.from) (D k.from) (no_worse k.from)) bound),
      )

      origin_at : (q : ℕ) → (q ≡ h.to) ⊎ (q ≡ h.to → ⊥) → ((M q ≡ None) × (E q ≡ source q)) ⊎ ((k : Hop) × Linked Goes M q k × NoWorse (times kind k.weight (E k.from)) (E q))
      origin_at q (inl e) = inr (
        h,
        (ap M e ∙ i.linked, goes, sym e),
        subst (λ z. NoWorse (times kind h.weight (E h.from)) z) (sym (ap E e ∙ (i.here ∙ is))) (times_keeps kind h.weight (E h.from) so_far (plus_trans (E h.from) (D h.from) so_far (no_worse h.from) kept)),
      )
      origin_at q (inr other) = origin_old q (i.others q other) (t.origin q)

  pub round_improves : (k : ℕ) (D E : ℕ → Cost) (L M : ℕ → Option Step) (h : Hop) (v : Cost) (Waits Now : ℕ → Type 0) (later more : List ℕ)
      → Round kind Goes source k D Waits later → Improves D E L M h v → ((q : ℕ) → Waits q → Now q) → ((q : ℕ) → Has later q → Has more q)
      → ((q : ℕ) → Has more q → Has later q ⊎ (q ≡ h.to)) → Now h.to ⊎ Has more h.to → Round kind Goes source k E Now more
  round_improves k D E L M h v Waits Now later more r i waits keeps only there = record {
    short = λ q p back few leads. plus_trans (E q) (D q) _ (no_worse q) (r.short q p back few leads);
    relaxed = λ j p back goes free few leads. plus_trans (E j.to) (D j.to) _ (no_worse j.to) (r.relaxed j p back goes (λ w. free (waits j.from w)) few leads);
    closed = λ j goes free off.
        let other : j.from ≡ h.to → ⊥ = λ e. held j.from free off e there in
        subst (λ z. NoWorse (E j.to) (times kind j.weight z)) (sym (i.others j.from other).0)
        (plus_trans (E j.to) (D j.to) _ (no_worse j.to) (r.closed j goes (λ w. free (waits j.from w)) (λ w. off (keeps j.from w))));
    strict = λ q p back has few leads. strict_at q p back few leads (only q has);
  }
    where
      no_worse : (q : ℕ) → NoWorse (E q) (D q)
      no_worse = improved_no_worse D E L M h v i

      held : (q : ℕ) → (Now q → ⊥) → (Has more q → ⊥) → q ≡ h.to → Now h.to ⊎ Has more h.to → ⊥
      held q free off e (inl w) = free (subst Now (sym e) w)
      held q free off e (inr w) = off (subst (λ (z : ℕ). Has more z) (sym e) w)

      strict_at : (q p : ℕ) (back : List Hop) → length back ≤ k → IsBack Goes q back p → Has later q ⊎ (q ≡ h.to) → Better (E q) (value_by kind source back p)
      strict_at q p back few leads (inl old) = then_better (E q) (D q) _ (no_worse q) (r.strict q p back old few leads)
      strict_at q p back few leads (inr e) = subst (λ z. Better z (value_by kind source back p)) (sym (ap E e ∙ i.here)) (better_then v (D h.to) _ i.better (r.short h.to p back few (subst (λ (z : ℕ). IsBack Goes z back p) e leads)))

  -- a state is taken: all hops from it have been looked at
  pub round_taken : (k : ℕ) (D : ℕ → Cost) (members later : List ℕ) (state : ℕ) (so_far : Cost) → Round kind Goes source k D (λ q. Has members q ⊎ (q ≡ state)) later
      → ((h : Hop) → Goes h → h.from ≡ state → NoWorse (D h.to) (times kind h.weight so_far))
      → ((p : ℕ) (back : List Hop) → length back ≤ k → IsBack Goes state back p → NoWorse so_far (value_by kind source back p))
      → Has later state ⊎ (D state ≡ so_far) → Round kind Goes source k D (Has members) later
  round_taken k D members later state so_far r looked short off = record {
    short = r.short;
    relaxed = λ h p back goes free few leads. relaxed_at h p back goes free few leads (cases_eq h.from state);
    closed = λ h goes free away. closed_at h goes free away (cases_eq h.from state) off;
    strict = r.strict;
  }
    where
      not_waiting : (q : ℕ) → (Has members q → ⊥) → (q ≡ state → ⊥) → Has members q ⊎ (q ≡ state) → ⊥
      not_waiting q free other (inl w) = free w
      not_waiting q free other (inr e) = other e

      relaxed_at : (h : Hop) (p : ℕ) (back : List Hop) → Goes h → (Has members h.from → ⊥) → length back ≤ k → IsBack Goes h.from back p → (h.from ≡ state) ⊎ (h.from ≡ state → ⊥)
          → NoWorse (D h.to) (times kind h.weight (value_by kind source back p))
      relaxed_at h p back goes free few leads (inl e) = plus_trans (D h.to) (times kind h.weight so_far) _ (looked h goes e) (times_keeps kind h.weight so_far _ (short p back few (subst (λ (z : ℕ). IsBack Goes z back p) e leads)))
      relaxed_at h p back goes free few leads (inr other) = r.relaxed h p back goes (not_waiting h.from free other) few leads

      closed_at : (h : Hop) → Goes h → (Has members h.from → ⊥) → (Has later h.from → ⊥) → (h.from ≡ state) ⊎ (h.from ≡ state → ⊥) → Has later state ⊎ (D state ≡ so_far) → NoWorse (D h.to) (times kind h.weight (D h.from))
      closed_at h goes free away (inl e) (inl put_off) = absurd (away (subst (λ (z : ℕ). Has later z) (sym e) put_off))
      closed_at h goes free away (inl e) (inr same) = subst (λ z. NoWorse (D h.to) (times kind h.weight z)) (sym (ap D e ∙ same)) (looked h goes e)
      closed_at h goes free away (inr other) o = r.closed h goes (not_waiting h.from free other) away

  -- a round ends, and the states that were put off wait
  pub round_next : (k : ℕ) (D : ℕ → Cost) (L : ℕ → Option Step) (Waits : ℕ → Type 0) (later : List ℕ) → Tentative kind Goes source D L → Round kind Goes source k D Waits later
      → ((q : ℕ) → Waits q → ⊥) → Round kind Goes source (suc k) D (Has later) []
  round_next k D L Waits later t r none = record {
    short = short;
    relaxed = λ h p back goes free few leads. plus_trans (D h.to) (times kind h.weight (D h.from)) _ (r.closed h goes (none h.from) free) (times_keeps kind h.weight (D h.from) _ (short h.from p back few leads));
    closed = λ h goes free off. r.closed h goes (none h.from) free;
    strict = λ q p back has few leads. absurd has;
  }
    where
      short : (q p : ℕ) (back : List Hop) → length back ≤ suc k → IsBack Goes q back p → NoWorse (D q) (value_by kind source back p)
      short q p [] few leads = subst (λ z. NoWorse (D q) z) (ap source leads ∙ sym (one_times kind (source p))) (t.begins q)
      short q p (h ∷ back) few leads =
          subst (λ (z : ℕ). NoWorse (D z) (value_by kind source (h ∷ back) p)) leads.1
          (subst (λ z. NoWorse (D h.to) z) (sym (times_assoc kind h.weight (hops_product kind back) (source p))) (r.relaxed h p back leads.0 (none h.from) (omega arith) leads.2))

  -- the first round: each state with a value waits
  pub round_begins : (D : ℕ → Cost) (Waits : ℕ → Type 0) → ((q : ℕ) → D q ≡ source q) → ((q : ℕ) → (source q ≡ infinite → ⊥) → Waits q) → Round kind Goes source 0 D Waits []
  round_begins D Waits same waits = record {
    short = short;
    relaxed = λ h p back goes free few leads. relaxed h p back free few leads (infinite_or_not (source h.from));
    closed = λ h goes free off. closed h free (infinite_or_not (source h.from));
    strict = λ q p back has few leads. absurd has;
  }
    where
      short : (q p : ℕ) (back : List Hop) → length back ≤ 0 → IsBack Goes q back p → NoWorse (D q) (value_by kind source back p)
      short q p [] few leads = subst (λ z. NoWorse (D q) z) (same q ∙ (ap source leads ∙ sym (one_times kind (source p)))) (plus_same (D q))
      short q p (h ∷ back) few leads = absurd (omega arith)

      relaxed : (h : Hop) (p : ℕ) (back : List Hop) → (Waits h.from → ⊥) → length back ≤ 0 → IsBack Goes h.from back p → (source h.from ≡ infinite) ⊎ (source h.from ≡ infinite → ⊥)
          → NoWorse (D h.to) (times kind h.weight (value_by kind source back p))
      relaxed h p [] free few leads (inl e) = subst (λ z. NoWorse (D h.to) z) (sym (ap (times kind h.weight) (one_times kind (source p) ∙ (ap source (sym leads) ∙ e)) ∙ times_zero kind h.weight)) (before_infinite (D h.to))
      relaxed h p [] free few leads (inr some) = absurd (free (waits h.from some))
      relaxed h p (j ∷ back) free few leads c = absurd (omega arith)

      closed : (h : Hop) → (Waits h.from → ⊥) → (source h.from ≡ infinite) ⊎ (source h.from ≡ infinite → ⊥) → NoWorse (D h.to) (times kind h.weight (D h.from))
      closed h free (inl e) = subst (λ z. NoWorse (D h.to) z) (sym (ap (times kind h.weight) (same h.from ∙ e) ∙ times_zero kind h.weight)) (before_infinite (D h.to))
      closed h free (inr some) = absurd (free (waits h.from some))

  pub tentative_begins : (D : ℕ → Cost) (L : ℕ → Option Step) → ((q : ℕ) → D q ≡ source q) → ((q : ℕ) → L q ≡ None) → Tentative kind Goes source D L
  tentative_begins D L same none = record {
    begins = λ q. subst (λ z. NoWorse z (source q)) (sym (same q)) (plus_same (source q));
    reached = λ q. reached q (infinite_or_not (source q));
    origin = λ q. inl (none q, same q);
    cycles = λ x h back chain. absurd (let wrong : None ≡ Some (step_of h) = sym (none x) ∙ chain.0.0 in cc);
  }
    where
      reached : (q : ℕ) → (source q ≡ infinite) ⊎ (source q ≡ infinite → ⊥) → ((D q ≡ infinite) × (L q ≡ None)) ⊎ Arrives kind Goes source q (D q)
      reached q (inl e) = inl (same q ∙ e, none q)
      reached q (inr some) = inr (record { back = []; first = q; leads = refl; begins = some; weight = same q ∙ sym (one_times kind (source q)) })

  -- where no state waits and none is put off, the distances are the least values
  pub finished_no_worse : (k : ℕ) (D : ℕ → Cost) (L : ℕ → Option Step) (Waits : ℕ → Type 0) → Tentative kind Goes source D L → Round kind Goes source k D Waits [] → ((q : ℕ) → Waits q → ⊥)
      → (back : List Hop) (q p : ℕ) → IsBack Goes q back p → NoWorse (D q) (value_by kind source back p)
  finished_no_worse k D L Waits t r none [] q p leads = subst (λ z. NoWorse (D q) z) (ap source leads ∙ sym (one_times kind (source p))) (t.begins q)
  finished_no_worse k D L Waits t r none (h ∷ back) q p leads =
      let rest = finished_no_worse k D L Waits t r none back h.from p leads.2 in
      subst (λ (z : ℕ). NoWorse (D z) (value_by kind source (h ∷ back) p)) leads.1
      (subst (λ z. NoWorse (D h.to) z) (sym (times_assoc kind h.weight (hops_product kind back) (source p)))
      (plus_trans (D h.to) (times kind h.weight (D h.from)) _ (r.closed h leads.0 (none h.from) (λ w. absurd w)) (times_keeps kind h.weight (D h.from) _ rest)))

  pub finished : (n k : ℕ) → IsNet Goes n → (D : ℕ → Cost) (L : ℕ → Option Step) (Waits : ℕ → Type 0) → Tentative kind Goes source D L → Round kind Goes source k D Waits [] → ((q : ℕ) → Waits q → ⊥)
      → (q : ℕ) → IsLeast (Arrives kind Goes source q) (D q)
  finished n k net D L Waits t r none q = by_reached (t.reached q)
    where
      no_worse : (v : Cost) → Arrives kind Goes source q v → NoWorse (D q) v
      no_worse v a = subst (λ z. NoWorse (D q) z) (sym a.weight) (finished_no_worse k D L Waits t r none a.back q a.first a.leads)

      by_reached : ((D q ≡ infinite) × (L q ≡ None)) ⊎ Arrives kind Goes source q (D q) → IsLeast (Arrives kind Goes source q) (D q)
      by_reached (inl nothing) = inl ((λ v a. arrives_finite n net q v a (after_infinite (D q) v (no_worse v a) nothing.0)), nothing.0)
      by_reached (inr a) = inr (a, no_worse)
