use Rattle.std.proofs.Common.{Option, Some, ◌≡◌, [], ℕ, List, length, sym, ◌∙◌, subst, arith}
use Rattle.std.specs.Prelude.{IfSome}
use Rattle.std.proofs.lemmas.List.{length-map}
use Rattle.fst_search.specs.Closure.{Reached}
use Rattle.fst_search.specs.Hops.{IsHop}
use Rattle.fst_search.specs.Near.{ArePlaced, IsMet, ShortSearch, costs_of, names_of, one_at}
use Rattle.fst_search.proofs.ShortSearch.{met_few, none_placed, short_search_begins}
use Rattle.fst_search.proofs.short_search.try_search.Goals as goal

pub meet-requires-clause-placed : goal.meet-requires-clause-placed
meet-requires-clause-placed g c = subst (λ (zs : List (Reached g.row.W.Denot)). ArePlaced c.args.places.now.items (names_of zs)) (sym c.requires.empty) (none_placed (length c.args.links.now) c.args.places.now.items c.requires.blank)

pub loop-at-init : goal.loop-at-init
loop-at-init g c =
    let value = g.W.Weight.value in
    let kind = g.W.Weight.KIND in
    let m = subst (λ (zs : List (Reached g.row.W.Denot)). IsMet c.args.state (value c.one.result) (length zs) c.args.places.now.items c.meet.new.places.items (costs_of value zs) (costs_of value c.meet.new.reached.items)) c.requires.empty c.in_ok-meet.ensures.listed in
    record {
      placed = c.meet.ensures.placed;
      size = c.meet.ensures.size ∙ c.requires.blank.0;
      inside = omega arith;
      takes = omega arith;
      searching = short_search_begins kind (IsHop value [] c.args.links.now) c.args.state (length c.args.links.now) (value c.one.result) c.args.places.now.items c.meet.new.places.items (costs_of value c.meet.new.reached.items) c.one.ensures c.requires.blank m;
    }

-- what holds of the value of an option
in_some : {T : Type 0} (o : Option T) (x : T) (P : T → Type 0) → o ≡ Some x → IfSome o P → P x
in_some o x P e h = subst (λ (s : Option _). IfSome s P) e h

pub loop-at-preserved : goal.loop-at-preserved
loop-at-preserved g c =
    let value = g.W.Weight.value in
    let few = met_few (length c.args.links.now) c.loop-at.places.items (names_of c.loop-at.reached.items) c.loop-at.invariant.size c.loop-at.invariant.placed in
    let many : length (names_of c.loop-at.reached.items) ≡ length c.loop-at.reached.items = length-map c.loop-at.reached.items _ in
    let test = c.if-takes-len.false in
    let is = c.len-in-loop-at.ensures in
    record {
      placed = c.hand_on.ensures.placed;
      size = c.hand_on.ensures.states;
      inside = in_some _ c.in-Some.next _ c.in-Some.is c.in_ok-next.ensures.next;
      takes = omega (arith, few, many, test, is);
      searching = in_some _ c.in-Some.next _ c.in-Some.is c.in_ok-next.ensures.goes_on (one_at g.W.Weight.KIND c.args.state) c.loop-at.invariant.searching;
    }

pub returns-clause-found : goal.returns-clause-found
returns-clause-found g c = λ yes.
    let value = g.W.Weight.value in
    let same : c.loop-at.at ≡ length c.loop-at.reached.items = (let low = c.loop-at.invariant.inside in let high = c.loop-at-test.false in omega (arith, low, high)) in
    subst (λ (n : ℕ). ShortSearch g.W.Weight.KIND (IsHop value [] c.args.links.now) (one_at g.W.Weight.KIND c.args.state) n c.loop-at.places.items (costs_of value c.loop-at.reached.items)) same c.loop-at.invariant.searching

pub overflow_add-len : goal.overflow_add-len
overflow_add-len g c =
    let few = met_few (length c.args.links.now) c.loop-at.places.items (names_of c.loop-at.reached.items) c.loop-at.invariant.size c.loop-at.invariant.placed in
    let many : length (names_of c.loop-at.reached.items) ≡ length c.loop-at.reached.items = length-map c.loop-at.reached.items _ in
    let size = c.requires.size in
    let is = c.len-in-loop-at.ensures in
    omega (arith, few, many, size, is)
