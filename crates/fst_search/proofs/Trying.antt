-- What one value that is tried does to a search that looks at the hops of a state.
use Rattle.std.proofs.Common.{◌≡◌, ◌⊎◌, inl, inr, ℕ, ◌+◌, ◌*◌, ◌<◌, ◌≤◌, List, [], ◌∷◌, ◌++◌, length, sym, refl, ap, ◌∙◌, subst, subst₂, arith}
use Rattle.std.proofs.lemmas.Bool.{cases_eq}
use Rattle.std.proofs.lemmas.List.{length-set}
use Rattle.fst_semiring.specs.Cost.{Cost, infinite}
use Rattle.fst_semiring.specs.declared.arc_type.ArcType.{ArcType}
use Rattle.fst_semiring.specs.Semiring.{times, IsCost, Within}
use Rattle.fst_semiring.proofs.Order.{plus_same, plus_trans}
use Rattle.fst_semiring.proofs.Ranges.{Within-times}
use Rattle.fst_machine.specs.BreadthFirst.{Apart, Has}
use Rattle.fst_machine.proofs.Elements.{Apart-push, Has-append_left, Has-append_right, Has-append_cases}
use Rattle.fst_search.specs.Hops.{Hop, NoWorse, IsNet}
use Rattle.fst_search.specs.Searching.{Linked, Looking, Marked, Node, distance_at, link_at, most_number, step_of, turn_at}
use Rattle.fst_search.specs.Trying.{Betters, Met, Tried}
use Rattle.fst_search.proofs.Order.{better_finite}
use Rattle.fst_search.proofs.Chains.{same_from}
use Rattle.fst_search.proofs.Nodes.{improves_written, written_here, written_other}
use Rattle.fst_search.proofs.Rounds.{Improves, improved_no_worse, round_improves, tentative_improves}

-- the states that were met, after one that became better
met_kept : (state : ℕ) (before : Cost) (met seen : List ℕ) → Met state before met seen → (q : ℕ) → Has met q → Has seen q
met_kept state before met seen (inl new) q h = subst (λ (xs : List ℕ). Has xs q) (sym new.1) (Has-append_left met (state ∷ []) q h)
met_kept state before met seen (inr old) q h = subst (λ (xs : List ℕ). Has xs q) (sym old.1) h

met_only : (state : ℕ) (before : Cost) (met seen : List ℕ) → Met state before met seen → (q : ℕ) → Has seen q → Has met q ⊎ (q ≡ state)
met_only state before met seen (inl new) q h = by_part (Has-append_cases met (state ∷ []) q (subst (λ (xs : List ℕ). Has xs q) new.1 h))
  where
    by_part : Has met q ⊎ Has (state ∷ []) q → Has met q ⊎ (q ≡ state)
    by_part (inl old) = inl old
    by_part (inr (inl e)) = inr (sym e)
    by_part (inr (inr none)) = absurd none
met_only state before met seen (inr old) q h = inl (subst (λ (xs : List ℕ). Has xs q) old.1 h)

module _ (kind : ArcType) (Goes : Hop → Type 0) (source : ℕ → Cost) (n bound k mark takes : ℕ) (net : IsNet Goes n)
    (h : Hop) (goes : Goes h) (v so_far : Cost) (is : v ≡ times kind h.weight so_far)
    (nodes after : List (Node Cost)) (members now later more met seen : List ℕ)
    (b : Betters mark h.to v (step_of h) nodes after members now later more met seen) where
  improves : length nodes ≡ n → Improves (distance_at nodes) (distance_at after) (link_at nodes) (link_at after) h v
  improves size = improves_written nodes after h v b.turn (let low = net.ends h goes in omega arith) b.node b.better

  turn_here : length nodes ≡ n → (q : ℕ) → q ≡ h.to → turn_at after q ≡ b.turn
  turn_here size q e = ap (λ (zs : List (Node Cost)). turn_at zs q) b.node ∙ ap (λ z. z.turn) (written_here nodes h.to q _ (let low = net.ends h goes in omega arith) e)

  turn_other : (q : ℕ) → (q ≡ h.to → ⊥) → turn_at after q ≡ turn_at nodes q
  turn_other q other = ap (λ (zs : List (Node Cost)). turn_at zs q) b.node ∙ ap (λ z. z.turn) (written_other nodes h.to q _ other)

  is_put_off : mark ≤ turn_at nodes h.to → (mark < turn_at nodes h.to → Has later h.to) → Has more h.to
  is_put_off late off = by_case b.placed.there
    where
      by_case : ((turn_at nodes h.to < mark) × Has now h.to) ⊎ (((turn_at nodes h.to ≡ mark) × Has more h.to) ⊎ (mark < turn_at nodes h.to)) → Has more h.to
      by_case (inl early) = absurd (let low = early.0 in omega arith)
      by_case (inr (inl here)) = here.1
      by_case (inr (inr above)) = b.placed.later_kept h.to (off above)

  module _ (m : Marked kind Goes source n bound mark takes nodes members later met) where
    is_met : Has seen h.to
    is_met = by_case b.meets
      where
        by_case : Met h.to (distance_at nodes h.to) met seen → Has seen h.to
        by_case (inl new) = subst (λ (xs : List ℕ). Has xs h.to) (sym new.1) (Has-append_right met (h.to ∷ []) h.to (inl refl))
        by_case (inr old) = subst (λ (xs : List ℕ). Has xs h.to) (sym old.1) (m.met_all h.to old.0)

    stays_low : turn_at nodes h.to < mark → (q : ℕ) → q ≡ h.to → turn_at after q < mark
    stays_low low q e =
        let same : b.turn ≡ turn_at nodes h.to = b.placed.turn_stays (λ z. omega arith) in
        let here = turn_here m.size q e in
        omega arith

    members_low : (q : ℕ) → (q ≡ h.to) ⊎ (q ≡ h.to → ⊥) → Has members q ⊎ ((q ≡ h.to) × (turn_at nodes h.to < mark)) → turn_at after q < mark
    members_low q (inl e) (inl old) = stays_low (subst (λ (z : ℕ). turn_at nodes z < mark) e (m.members_low q old)) q e
    members_low q (inl e) (inr new) = stays_low new.1 q e
    members_low q (inr other) (inl old) = let low = m.members_low q old in let same = turn_other q other in omega arith
    members_low q (inr other) (inr new) = absurd (other new.0)

    members_met : (q : ℕ) → Has members q ⊎ ((q ≡ h.to) × (turn_at nodes h.to < mark)) → Has seen q
    members_met q (inl old) = met_kept h.to (distance_at nodes h.to) met seen b.meets q (m.members_met q old)
    members_met q (inr new) = subst (λ (z : ℕ). Has seen z) (sym new.0) is_met

    later_marked : (q : ℕ) → (q ≡ h.to) ⊎ (q ≡ h.to → ⊥) → Has later q ⊎ ((q ≡ h.to) × (turn_at nodes h.to ≡ mark)) → turn_at after q ≡ mark + 1
    later_marked q (inl e) (inl old) =
        let was : turn_at nodes h.to ≡ mark + 1 = subst (λ (z : ℕ). turn_at nodes z ≡ mark + 1) e (m.later_marked q old) in
        let same : b.turn ≡ turn_at nodes h.to = b.placed.turn_stays (λ z. omega arith) in
        let here = turn_here m.size q e in
        omega arith
    later_marked q (inl e) (inr new) = turn_here m.size q e ∙ b.placed.turn_put_off new.1
    later_marked q (inr other) (inl old) = turn_other q other ∙ m.later_marked q old
    later_marked q (inr other) (inr new) = absurd (other new.0)

    put_off : (q : ℕ) → (q ≡ h.to) ⊎ (q ≡ h.to → ⊥) → (turn_at nodes h.to ≡ mark) ⊎ (turn_at nodes h.to ≡ mark → ⊥) → mark < turn_at after q → Has more q
    put_off q (inl e) (inl at_mark) late = subst (λ (z : ℕ). Has more z) (sym e) (is_put_off (omega arith) (m.put_off h.to))
    put_off q (inl e) (inr off_mark) late =
        let same : b.turn ≡ turn_at nodes h.to = b.placed.turn_stays off_mark in
        let here = turn_here m.size q e in
        subst (λ (z : ℕ). Has more z) (sym e) (is_put_off (omega arith) (m.put_off h.to))
    put_off q (inr other) c late = b.placed.later_kept q (m.put_off q (let same = turn_other q other in omega arith))

    turned_met : (q : ℕ) → (q ≡ h.to) ⊎ (q ≡ h.to → ⊥) → 0 < turn_at after q → Has seen q
    turned_met q (inl e) some = subst (λ (z : ℕ). Has seen z) (sym e) is_met
    turned_met q (inr other) some = met_kept h.to (distance_at nodes h.to) met seen b.meets q (m.turned_met q (let same = turn_other q other in omega arith))

    met_low : (q : ℕ) → Has met q ⊎ (q ≡ h.to) → q < n
    met_low q (inl old) = m.met_low q old
    met_low q (inr e) = let low = net.ends h goes in omega arith

    met_finite : (q : ℕ) → (q ≡ h.to) ⊎ (q ≡ h.to → ⊥) → Has met q ⊎ (q ≡ h.to) → distance_at after q ≡ infinite → ⊥
    met_finite q (inl e) c zero_here = better_finite v (distance_at nodes h.to) b.better (sym (improves m.size).here ∙ (ap (distance_at after) (sym e) ∙ zero_here))
    met_finite q (inr other) (inl old) zero_here = m.met_only q old (sym ((improves m.size).others q other).0 ∙ zero_here)
    met_finite q (inr other) (inr e) zero_here = other e

    met_all : (q : ℕ) → (q ≡ h.to) ⊎ (q ≡ h.to → ⊥) → (distance_at after q ≡ infinite → ⊥) → Has seen q
    met_all q (inl e) some = subst (λ (z : ℕ). Has seen z) (sym e) is_met
    met_all q (inr other) some = met_kept h.to (distance_at nodes h.to) met seen b.meets q (m.met_all q (λ zero_here. some (((improves m.size).others q other).0 ∙ zero_here)))

    met_apart : Met h.to (distance_at nodes h.to) met seen → Apart seen
    met_apart (inl new) = subst (λ (xs : List ℕ). Apart xs) (sym new.1) (Apart-push met h.to m.met_apart (λ has. m.met_only h.to has new.0))
    met_apart (inr old) = subst (λ (xs : List ℕ). Apart xs) (sym old.1) m.met_apart

    value_number : Within most_number h.weight → Within (takes * most_number) so_far → Within ((1 + takes) * most_number) v
    value_number range far =
        let e : most_number + takes * most_number ≡ (1 + takes) * most_number = omega arith in
        subst (Within ((1 + takes) * most_number)) (sym is) (subst (λ (j : ℕ). Within j (times kind h.weight so_far)) e (Within-times kind most_number (takes * most_number) h.weight so_far range far))

    numbers : Within ((1 + takes) * most_number) v → (q : ℕ) → (q ≡ h.to) ⊎ (q ≡ h.to → ⊥) → Within ((1 + takes) * most_number) (distance_at after q)
    numbers here q (inl e) = subst (Within ((1 + takes) * most_number)) (sym (ap (distance_at after) e ∙ (improves m.size).here)) here
    numbers here q (inr other) = subst (Within ((1 + takes) * most_number)) (sym ((improves m.size).others q other).0) (m.numbers q)

    kinds : IsCost kind v → (q : ℕ) → (q ≡ h.to) ⊎ (q ≡ h.to → ⊥) → IsCost kind (distance_at after q)
    kinds here q (inl e) = subst (IsCost kind) (sym (ap (distance_at after) e ∙ (improves m.size).here)) here
    kinds here q (inr other) = subst (IsCost kind) (sym ((improves m.size).others q other).0) (m.kinds q)

    bounded : Within bound h.weight → (q : ℕ) → (q ≡ h.to) ⊎ (q ≡ h.to → ⊥) → (j : Hop) → Linked Goes (link_at after) q j → Within bound j.weight
    bounded own q (inl e) j linked =
        let same = same_from (step_of j) (step_of h) (sym linked.0 ∙ (ap (link_at after) e ∙ (improves m.size).linked)) in
        subst (Within bound) (sym (net.fixed j h linked.1 goes same.0 same.1 (linked.2 ∙ e))) own
    bounded own q (inr other) j linked = m.bounded q j (sym ((improves m.size).others q other).1 ∙ linked.0, linked.1, linked.2)

    pub marked_improves : Within most_number h.weight → Within bound h.weight → Within (takes * most_number) so_far → IsCost kind v → Marked kind Goes source n bound mark takes after now more seen
    marked_improves range own far cost = record {
      size = ap length b.node ∙ (length-set nodes h.to _ ∙ m.size);
      members_low = λ q has. members_low q (cases_eq q h.to) (b.placed.members_only q has);
      members_met = λ q has. members_met q (b.placed.members_only q has);
      later_marked = λ q has. later_marked q (cases_eq q h.to) (b.placed.later_only q has);
      put_off = λ q late. put_off q (cases_eq q h.to) (cases_eq (turn_at nodes h.to) mark) late;
      turned_met = λ q some. turned_met q (cases_eq q h.to) some;
      met_low = λ q has. met_low q (met_only h.to (distance_at nodes h.to) met seen b.meets q has);
      met_only = λ q has. met_finite q (cases_eq q h.to) (met_only h.to (distance_at nodes h.to) met seen b.meets q has);
      met_all = λ q some. met_all q (cases_eq q h.to) some;
      met_apart = met_apart b.meets;
      numbers = λ q. numbers (value_number range far) q (cases_eq q h.to);
      kinds = λ q. kinds cost q (cases_eq q h.to);
      begun = m.begun;
      bounded = λ q j linked. bounded own q (cases_eq q h.to) j linked;
    }

  module _ (done : List Hop) (l : Looking kind Goes source n bound k mark takes h.from so_far done nodes members later met) where
    i : Improves (distance_at nodes) (distance_at after) (link_at nodes) (link_at after) h v
    i = improves l.searching.marked.size

    no_worse : (q : ℕ) → NoWorse (distance_at after q) (distance_at nodes q)
    no_worse = improved_no_worse (distance_at nodes) (distance_at after) (link_at nodes) (link_at after) h v i

    waits : (q : ℕ) → Has members q ⊎ (q ≡ h.from) → Has now q ⊎ (q ≡ h.from)
    waits q (inl old) = inl (b.placed.members_kept q old)
    waits q (inr e) = inr e

    only : (q : ℕ) → Has later q ⊎ ((q ≡ h.to) × (turn_at nodes h.to ≡ mark)) → Has later q ⊎ (q ≡ h.to)
    only q (inl old) = inl old
    only q (inr new) = inr new.0

    there : ((turn_at nodes h.to < mark) × Has now h.to) ⊎ (((turn_at nodes h.to ≡ mark) × Has more h.to) ⊎ (mark < turn_at nodes h.to)) → (Has now h.to ⊎ (h.to ≡ h.from)) ⊎ Has more h.to
    there (inl early) = inl (inl early.1)
    there (inr (inl here)) = inr here.1
    there (inr (inr above)) = inr (b.placed.later_kept h.to (l.searching.marked.put_off h.to above))

    looked : (j : Hop) → Has done j ⊎ Has (h ∷ []) j → Goes j → NoWorse (distance_at after j.to) (times kind j.weight so_far)
    looked j (inl old) g = plus_trans _ (distance_at nodes j.to) _ (no_worse j.to) (l.looked j old g)
    looked j (inr (inl e)) g = subst (λ (z : Hop). NoWorse (distance_at after z.to) (times kind z.weight so_far)) e (subst (λ z. NoWorse z (times kind h.weight so_far)) (sym (i.here ∙ is)) (plus_same (times kind h.weight so_far)))
    looked j (inr (inr none)) g = absurd none

    off : (h.from ≡ h.to) ⊎ (h.from ≡ h.to → ⊥) → Has later h.from ⊎ (distance_at nodes h.from ≡ so_far) → Has more h.from ⊎ (distance_at after h.from ≡ so_far)
    off (inl e) c = inl (subst (λ (z : ℕ). Has more z) (sym e) (is_put_off (subst (λ (z : ℕ). mark ≤ turn_at nodes z) e l.turned) (l.searching.marked.put_off h.to)))
    off (inr other) (inl old) = inl (b.placed.later_kept h.from old)
    off (inr other) (inr same) = inr ((i.others h.from other).0 ∙ same)

    turned : (h.from ≡ h.to) ⊎ (h.from ≡ h.to → ⊥) → (turn_at nodes h.to ≡ mark) ⊎ (turn_at nodes h.to ≡ mark → ⊥) → mark ≤ turn_at after h.from
    turned (inl e) (inl at_mark) = let here = turn_here l.searching.marked.size h.from e in let put = b.placed.turn_put_off at_mark in omega arith
    turned (inl e) (inr off_mark) =
        let here = turn_here l.searching.marked.size h.from e in
        let same = b.placed.turn_stays off_mark in
        let was = subst (λ (z : ℕ). mark ≤ turn_at nodes z) e l.turned in
        omega arith
    turned (inr other) c = let same = turn_other h.from other in let was = l.turned in omega arith

    pub looking_improves : Within most_number h.weight → Within bound h.weight → IsCost kind v → Looking kind Goes source n bound k mark takes h.from so_far (done ++ h ∷ []) after now more seen
    looking_improves range own cost = record {
      searching = record {
        tentative = tentative_improves kind Goes source n net (distance_at nodes) (distance_at after) (link_at nodes) (link_at after) h v so_far goes is l.kept l.arrives l.searching.tentative i;
        round = round_improves kind Goes source k (distance_at nodes) (distance_at after) (link_at nodes) (link_at after) h v _ _ later more l.searching.round i waits b.placed.later_kept (λ q has. only q (b.placed.later_only q has)) (there b.placed.there);
        marked = marked_improves l.searching.marked range own l.number cost;
      };
      looked = λ j has g. looked j (Has-append_cases done (h ∷ []) j has) g;
      short = l.short;
      kept = plus_trans _ (distance_at nodes h.from) so_far (no_worse h.from) l.kept;
      arrives = l.arrives;
      off = off (cases_eq h.from h.to) l.off;
      turned = turned (cases_eq h.from h.to) (cases_eq (turn_at nodes h.to) mark);
      number = l.number;
    }

module _ (kind : ArcType) (Goes : Hop → Type 0) (source : ℕ → Cost) (n bound k mark takes : ℕ) (h : Hop) (so_far : Cost) (done : List Hop) where
  -- a hop that changes nothing
  pub looking_stays : (nodes : List (Node Cost)) (members later met : List ℕ) → Looking kind Goes source n bound k mark takes h.from so_far done nodes members later met
      → (Goes h → NoWorse (distance_at nodes h.to) (times kind h.weight so_far)) → Looking kind Goes source n bound k mark takes h.from so_far (done ++ h ∷ []) nodes members later met
  looking_stays nodes members later met l fine = record {
    searching = l.searching;
    looked = λ j has g. looked j (Has-append_cases done (h ∷ []) j has) g;
    short = l.short;
    kept = l.kept;
    arrives = l.arrives;
    off = l.off;
    turned = l.turned;
    number = l.number;
  }
    where
      looked : (j : Hop) → Has done j ⊎ Has (h ∷ []) j → Goes j → NoWorse (distance_at nodes j.to) (times kind j.weight so_far)
      looked j (inl old) g = l.looked j old g
      looked j (inr (inl e)) g = subst (λ (z : Hop). NoWorse (distance_at nodes z.to) (times kind z.weight so_far)) e (fine (subst Goes (sym e) g))
      looked j (inr (inr none)) g = absurd none

  -- a value that was tried
  pub looking_tried : IsNet Goes n → (v : Cost) (nodes after : List (Node Cost)) (members now later more met seen : List ℕ) → Goes h → v ≡ times kind h.weight so_far
      → Within most_number h.weight → Within bound h.weight → IsCost kind v
      → Looking kind Goes source n bound k mark takes h.from so_far done nodes members later met
      → Tried mark h.to v (step_of h) nodes after members now later more met seen → Looking kind Goes source n bound k mark takes h.from so_far (done ++ h ∷ []) after now more seen
  looking_tried net v nodes after members now later more met seen goes is range own cost l (inl s) =
      let same = looking_stays nodes members later met l (λ g. subst (λ z. NoWorse (distance_at nodes h.to) z) is s.no_worse) in
      subst₂ (λ (zs : List (Node Cost)) (ms : List ℕ). Looking kind Goes source n bound k mark takes h.from so_far (done ++ h ∷ []) zs ms more seen) (sym s.nodes_same) (sym s.members_same)
      (subst₂ (λ (ls ms : List ℕ). Looking kind Goes source n bound k mark takes h.from so_far (done ++ h ∷ []) nodes members ls ms) (sym s.later_same) (sym s.met_same) same)
  looking_tried net v nodes after members now later more met seen goes is range own cost l (inr b) =
      looking_improves kind Goes source n bound k mark takes net h goes v so_far is nodes after members now later more met seen b done l range own cost
