-- The graph of subsets gives each pair of strings the weight that the acceptor gives it.
use Rattle.std.proofs.Common.{◌≡◌, ◌≢◌, ◌↔◌, inl, inr, ℕ, List, [], ◌∷◌, sym, refl, ap, ap₂, ◌∙◌, subst}
use Rattle.fst_semiring.specs.Cost.{Cost, infinite, plus}
use Rattle.fst_semiring.specs.Semiring.{times}
use Rattle.fst_semiring.specs.declared.arc_type.ArcType.{ArcType}
use Rattle.fst_semiring.proofs.Laws.{keeps_times, times_assoc, times_keeps, times_only_zero, times_zero}
use Rattle.fst_semiring.proofs.Order.{plus_antisym, plus_trans}
use Rattle.fst_machine.specs.Graph.{Graph}
use Rattle.fst_machine.specs.Letters.{before, input, label_word, output, product}
use Rattle.fst_machine.specs.Machine.{Arc}
use Rattle.fst_machine.specs.Paths.{IsPath, Transition, letters}
use Rattle.fst_machine.specs.Relation.{IsWeight, Rel}
use Rattle.fst_machine.proofs.Elements.{at_Has}
use Rattle.fst_determinize.specs.Subsets.{Member, Spells}
use Rattle.fst_trim.specs.Weighed.{IsWeighted}
use Rattle.fst_determinize.specs.Ways.{IsAcceptor, arc_by, arcs_by, final_by, subsets, ways}
use Rattle.fst_determinize.proofs.Best.{Weighs, best_least, best_no_worse, least_reached}
use Rattle.fst_determinize.proofs.Following.{follow_start, reach_word}
use Rattle.fst_determinize.proofs.Grouped.{grouped_Has}
use Rattle.fst_determinize.proofs.Members.{member_stands, residual_kind}
use Rattle.fst_determinize.proofs.Spelling.{spells_weighs}

-- the string of a word: epsilon left out
string_of : List ℕ → List ℕ
string_of [] = []
string_of (a ∷ x) = before a (string_of x)

input_is : {N : Type 0} (path : List (Transition N)) → input (letters path) ≡ string_of (label_word (letters path))
unfolding string_of
input_is [] = refl
input_is (t ∷ path) = ap (before t.arc.ilabel) (input_is path)

-- an acceptor writes what it reads
output_is : {N : Type 0} (g : Graph N) → IsAcceptor g → (path : List (Transition N)) (p q : N) → IsPath g p path q → output (letters path) ≡ input (letters path)
output_is g same [] p q leads = refl
output_is g same (t ∷ path) p q leads = ap₂ before (sym (same p t.place t.arc leads.0.1)) (output_is g same path t.arc.next q leads.1)

module _ (kind : ArcType) (g : Graph ℕ) where
  -- the graph of subsets is an acceptor
  pub subsets_accept : IsAcceptor (subsets kind g)
  subsets_accept s k a at =
      let y = grouped_Has (λ y. y.label) (arc_by kind) (ways kind g s) a (at_Has (arcs_by kind (ways kind g s)) k a at) in
      subst (λ (a : Arc Cost (List Member)). a.ilabel ≡ a.olabel) y.2 refl

  module _ (weighted : IsWeighted kind g) (acceptor : IsAcceptor g) where
    -- what the subsets relate, the acceptor relates
    pub related_there : (x y : List ℕ) (w : Cost) → Rel kind (subsets kind g) x y w → Rel kind g x y w
    related_there x y w r =
        let path = r.says.path in
        let s = r.says.last in
        let word = label_word (letters path) in
        let b = product kind (letters path) in
        let sub = (follow_start kind g weighted r.first s path r.starts r.says.leads).0 in
        let best = least_reached (Weighs (λ (m : Member). times kind m.residual (g.final m.state)) s) (final_by kind g s) (best_least (λ (m : Member). times kind m.residual (g.final m.state)) s) r.says.final in
        let m = best.0.0 in
        let from = member_stands kind g weighted word b s sub m best.0.1 in
        let reads : input (letters path) ≡ input (letters from.spells.path) = input_is path ∙ (ap string_of (sym from.spells.reads) ∙ sym (input_is from.spells.path)) in
        record {
          first = from.spells.first;
          starts = from.spells.starts;
          says = record {
            path = from.spells.path;
            last = m.state;
            leads = from.spells.leads;
            final = λ e. r.says.final (best.0.2 ∙ (ap (times kind m.residual) e ∙ times_zero kind m.residual));
            reads = r.says.reads ∙ reads;
            writes = r.says.writes ∙ (output_is (subsets kind g) subsets_accept path r.first s r.says.leads ∙ (reads ∙ sym (output_is g acceptor from.spells.path from.spells.first m.state from.spells.leads)));
            weight = r.says.weight ∙ (ap (times kind b) best.0.2 ∙ (sym (times_assoc kind b m.residual (g.final m.state)) ∙ ap (λ v. times kind v (g.final m.state)) (from.undone ∙ from.spells.weight)));
          };
        }

    -- what the acceptor relates, the subsets relate with a weight that is no worse
    pub related_back : (x y : List ℕ) (w : Cost) → Rel kind g x y w → (v : Cost) × Rel kind (subsets kind g) x y v × (plus v w ≡ v)
    related_back x y w r =
        let path = r.says.path in
        let q = r.says.last in
        let word = label_word (letters path) in
        let u = product kind (letters path) in
        let f = g.final q in
        let spells : Spells kind g word q u = record { first = r.first; path = path; starts = r.starts; leads = r.says.leads; reads = refl; weight = refl } in
        let there = reach_word kind g weighted word q u spells in
        let s = there.1 in
        let b = product kind (letters there.2) in
        let sub = (follow_start kind g weighted there.0 s there.2 there.3 there.4).0 in
        let own : Spells kind g (label_word (letters there.2)) q u = record { first = r.first; path = path; starts = r.starts; leads = r.says.leads; reads = sym there.5; weight = refl } in
        let has = sub.all q u own (spells_weighs kind g weighted word q u spells).1 in
        let m : Member = record { state = q; residual = has.0 } in
        let from = member_stands kind g weighted (label_word (letters there.2)) b s sub m has.1 in
        let residual = residual_kind kind g weighted (label_word (letters there.2)) b m from in
        let some : times kind has.0 f ≢ infinite = λ e. elim (times_only_zero kind has.0 f e) [ inl one ↦ residual.1 one | inr two ↦ r.says.final two ] in
        let last = best_no_worse (λ (m : Member). times kind m.residual (g.final m.state)) s m has.1 some in
        let reads : input (letters path) ≡ input (letters there.2) = input_is path ∙ (ap string_of (sym there.5) ∙ sym (input_is there.2)) in
        let regroup : times kind b (times kind has.0 f) ≡ times kind from.weight f = sym (times_assoc kind b has.0 f) ∙ ap (λ v. times kind v f) from.undone in
        let one : plus (times kind b (final_by kind g s)) (times kind from.weight f) ≡ times kind b (final_by kind g s) = ap (plus (times kind b (final_by kind g s))) (sym regroup) ∙ times_keeps kind b (final_by kind g s) (times kind has.0 f) last.1 in
        let two : plus (times kind from.weight f) (times kind u f) ≡ times kind from.weight f = keeps_times kind f from.weight u (from.least u own) in
        let low : plus (times kind b (final_by kind g s)) (times kind u f) ≡ times kind b (final_by kind g s) = plus_trans (times kind b (final_by kind g s)) (times kind from.weight f) (times kind u f) one two in (
          times kind b (final_by kind g s),
          record {
            first = there.0;
            starts = there.3;
            says = record {
              path = there.2;
              last = s;
              leads = there.4;
              final = last.0;
              reads = r.says.reads ∙ reads;
              writes = r.says.writes ∙ (output_is g acceptor path r.first q r.says.leads ∙ (reads ∙ sym (output_is (subsets kind g) subsets_accept there.2 there.0 s there.4)));
              weight = refl;
            };
          },
          ap (plus (times kind b (final_by kind g s))) r.says.weight ∙ low,
        )

    -- so each pair has the same weight
    pub same_weights : (x y : List ℕ) (w : Cost) → IsWeight kind g x y w ↔ IsWeight kind (subsets kind g) x y w
    same_weights x y w = (there, back)
      where
        there : IsWeight kind g x y w → IsWeight kind (subsets kind g) x y w
        there h =
            let r = related_back x y w h.reached in
            let same : r.0 ≡ w = plus_antisym r.0 w r.2 (h.least r.0 (related_there x y r.0 r.1)) in
            record { reached = subst (λ (v : Cost). Rel kind (subsets kind g) x y v) same r.1; least = λ v k. h.least v (related_there x y v k) }

        back : IsWeight kind (subsets kind g) x y w → IsWeight kind g x y w
        back h = record {
          reached = related_there x y w h.reached;
          least = λ v k. let r = related_back x y v k in plus_trans w r.0 v (h.least r.0 r.1) r.2;
        }
