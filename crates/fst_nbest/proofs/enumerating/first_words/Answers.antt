use Rattle.std.proofs.Common.{◌≡◌, ◌∷◌, ◌++◌, [], inl, inr, List, ℕ, refl, length, sym, subst, ap, ◌∙◌, arith}
use Rattle.fst_nbest.specs.declared.entry.Entry.{Entry}
use Rattle.fst_nbest.specs.Entries.{IsSearching}
use Rattle.fst_nbest.proofs.Searches.{kept_compare, search_begins, search_ends}
use Rattle.fst_nbest.proofs.enumerating.first_words.Goals as goal

pub take_first-requires-clause-fits : goal.take_first-requires-clause-fits
take_first-requires-clause-fits g c =
    let s = g.S.System in
    let system = c.args.system.now in
    kept_compare s.kind (s.words system) (s.dist system) (s.count system) s.value s.bounded c.args.start c.words.listed c.words.orders c.words.table.items c.words.invariant.search.entries

pub words-init : goal.words-init
words-init g c =
    let s = g.S.System in
    let system = c.args.system.now in
    let size : length c.prepare.new.self ≡ s.size system = omega (arith, c.in_ok-prepare.ensures.size, c.in_ok-orders.ensures.size, c.name_count.ensures.count) in
    let first : Entry _ = record { total = c.whole-total.result.0; front = c.one.result; arcs = c.whole-total.result.1; path = 0; depth = 0; name = c.args.start; rank = 0 } in
    let table : first ∷ [] ≡ c.push.new.self.items = sym (c.in_ok-push.ensures.items ∙ ap (λ (l : List (Entry _)). l ++ first ∷ []) c.new-table.ensures.items) in
    record {
      search =
          subst (λ (ws : List (List ℕ)). IsSearching s.kind (s.words system) (s.dist system) (s.count system) s.value s.bounded c.args.start ws c.prepare.new.self c.push.new.self.items) (sym c.new-listed.ensures)
          (subst (λ (es : List (Entry _)). IsSearching s.kind (s.words system) (s.dist system) (s.count system) s.value s.bounded c.args.start [] c.prepare.new.self es) table
          (search_begins s.kind (s.words system) (s.dist system) (s.count system) s.value s.bounded c.name_count-names.ensures.cancel c.name_count-names.ensures.good c.args.start c.prepare.new.self first (s.dist system c.args.start) (s.count system c.args.start)
          c.in_ok-prepare.ensures.orders c.in_ok-prepare.ensures.there (omega (arith, size, c.requires.start)) c.requires.live refl refl refl c.whole-total.ensures.arcs c.one.ensures.value c.whole-total.ensures.total c.one.ensures.bound));
      size = size;
      clear = c.new-left.ensures.items;
      few = omega (arith, ap length c.new-listed.ensures);
      ticked = omega (arith, ap length c.new-listed.ensures);
    }

pub returns-in_default-clause-first : goal.returns-in_default-clause-first
returns-in_default-clause-first g c =
    let s = g.S.System in
    let system = c.args.system.now in
    search_ends s.kind (s.words system) (s.dist system) (s.count system) s.value s.bounded c.name_count-names.ensures.cancel c.name_count-names.ensures.good c.args.start c.words.listed c.words.orders c.words.table.items c.args.n c.words.invariant.few (inr c.in_default.ensures) c.words.invariant.search

pub words-preserved : goal.words-preserved
words-preserved g c = record {
  search = c.in_ok-list_one.ensures.search c.args.start c.words.table.items c.words.invariant.search c.in-Some.ensures;
  size = c.in_ok-list_one.ensures.size ∙ c.words.invariant.size;
  clear = c.in_ok-list_one.ensures.clear;
  few = omega (arith, c.in_ok-list_one.ensures.listed, c.words-test.true, c.len.ensures);
  ticked = omega (arith, c.in_ok-list_one.ensures.listed, c.tick.ensures, c.words.invariant.ticked);
}

pub returns-clause-first : goal.returns-clause-first
returns-clause-first g c =
    let s = g.S.System in
    let system = c.args.system.now in
    search_ends s.kind (s.words system) (s.dist system) (s.count system) s.value s.bounded c.name_count-names.ensures.cancel c.name_count-names.ensures.good c.args.start c.words.listed c.words.orders c.words.table.items c.args.n c.words.invariant.few
    (inl (omega (arith, c.words.invariant.few, c.words-test.false, c.len.ensures))) c.words.invariant.search
