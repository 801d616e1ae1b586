-- A machine that numbers the names of a graph has the best paths of the graph, and its improving cycles.
use Rattle.std.proofs.Common.{◌≡◌, ◌⊎◌, inl, inr, ℕ, ◌<◌, List, [], ◌∷◌, ◌++◌, Option, None, Some, length, map, get_or, slice_get, refl, sym, ap, ap₂, ◌∙◌, subst, Less, arith}
use Rattle.std.specs.Ordering.{nat_cmp, ordering_then}
use Rattle.std.specs.Cmp.Lexicographic.{slice_cmp}
use Rattle.std.proofs.lemmas.List.{length-map}
use Rattle.std.proofs.lemmas.Option.{get_or_from_slice_get, slice_get-get_or, slice_get_within}
use Rattle.fst_semiring.specs.Cost.{Cost, cost_cmp}
use Rattle.fst_semiring.specs.declared.arc_type.ArcType.{ArcType}
use Rattle.fst_semiring.specs.Semiring.{one_of, times}
use Rattle.fst_machine.specs.BreadthFirst.{Apart, Has}
use Rattle.fst_machine.specs.Cycles.{IsImprovingCycle, IsUseful}
use Rattle.fst_machine.specs.Graph.{Graph, graph_of}
use Rattle.fst_machine.specs.Letters.{Letter, output, product}
use Rattle.fst_machine.specs.Machine.{Machine}
use Rattle.fst_machine.specs.Numbering.{IsNumbered, start_of}
use Rattle.fst_machine.specs.PathOrder.{Ascends, IsFirst, WeightedPath, path_cmp}
use Rattle.fst_machine.specs.Paths.{IsPath, Transition, letters}
use Rattle.fst_machine.specs.Relation.{IsSuccessful}
use Rattle.fst_machine.specs.Renaming.{Renames, moved}
use Rattle.fst_machine.proofs.Elements.{Apart_at}
use Rattle.fst_machine.proofs.Numbering.{IsNumbered-Renames}
use Rattle.fst_machine.proofs.Renaming.{moved-IsPath, moved-arc_places, moved-letters, moved_back}
use Rattle.fst_delayed.proofs.Keys.{Has-map}
use Rattle.fst_batch.specs.BestPaths.{Improves, labels_of, told_of}

-- what stands in a mapped list
pub mapped_Has : {X Y : Type 0} (f : X → Y) (xs : List X) (y : Y) → Has (map f xs) y → (x : X) × Has xs x × (f x ≡ y)
mapped_Has f [] y h = absurd h
mapped_Has f (x ∷ xs) y (inl e) = (x, inl refl, e)
mapped_Has f (x ∷ xs) y (inr h) = let r = mapped_Has f xs y h in (r.0, inr r.1, r.2)

module _ {N M : Type 0} (f : N → M) where
  -- the path under other names
  abbrev pub renamed_path : WeightedPath N → WeightedPath M
  renamed_path a = record { path = moved f a.path; weight = a.weight }

  -- compares as before
  renamed_cmp : (a b : WeightedPath N) → path_cmp (renamed_path a) (renamed_path b) ≡ path_cmp a b
  renamed_cmp a b =
      let long : (c : WeightedPath N) → length (moved f c.path) ≡ length c.path = λ c. length-map c.path _ in
      let size = ap₂ nat_cmp (long a) (long b) in
      let turns = ap₂ (slice_cmp nat_cmp) (moved-arc_places f a.path) (moved-arc_places f b.path) in
      ap (ordering_then (cost_cmp a.weight b.weight)) (ap₂ ordering_then size turns)

  renamed-Ascends : (paths : List (WeightedPath N)) → Ascends paths → Ascends (map renamed_path paths)
  renamed-Ascends [] h = tt
  renamed-Ascends (a ∷ paths) h = (
    λ b there. let r = mapped_Has renamed_path paths b there in subst (λ (z : WeightedPath M). path_cmp (renamed_path a) z ≡ Less) r.2 (renamed_cmp a r.0 ∙ h.0 r.0 r.1),
    renamed-Ascends paths h.1,
  )

  -- says what it said
  pub renamed_told : (paths : List (WeightedPath N)) → map told_of (map renamed_path paths) ≡ map told_of paths
  renamed_told [] = refl
  renamed_told (a ∷ paths) = ap₂ (λ (ls : List Letter) rest. record { weight = a.weight; text = output ls } ∷ rest) (moved-letters f a.path) (renamed_told paths)

  pub renamed_labels : (paths : List (WeightedPath N)) → labels_of (map renamed_path paths) ≡ labels_of paths
  renamed_labels [] = refl
  renamed_labels (a ∷ paths) = ap₂ (λ (ls : List Letter) rest. output ls ++ rest) (moved-letters f a.path) (renamed_labels paths)

-- where nothing starts, the first paths are none
pub none_first : {N : Type 0} (kind : ArcType) (g : Graph N) (n : ℕ) → g.start ≡ None → IsFirst kind g n []
none_first kind g n none = record {
  few = omega arith;
  ascends = tt;
  successful = λ a h. absurd h;
  others = λ b h. absurd (let e : None ≡ Some h.first = sym none ∙ h.starts in cc);
}

module _ {N : Type 0} (kind : ArcType) (g : Graph N) (names : List N) (m : Machine Cost) (h : IsNumbered g names m) (start : N) (begins : slice_get names 0 ≡ Some start) where
  -- the name of a number
  abbrev pub name_of : ℕ → N
  name_of j = get_or names j start

  abbrev Within : ℕ → Type 0
  Within j = j < length names

  renames : Renames name_of (graph_of m) g Within
  renames = IsNumbered-Renames g names m start h

  some : Within 0
  some = slice_get_within names 0 start begins

  starts_here : g.start ≡ Some start
  starts_here = h.first ∙ begins

  machine_starts : (graph_of m).start ≡ Some 0
  machine_starts = h.start ∙ by names begins
    where
      by : (ns : List N) → slice_get ns 0 ≡ Some start → ◌≡◌ {A = Option ℕ} (start_of ns) (Some 0)
      by [] e = absurd (cc)
      by (n ∷ ns) e = refl

  first_name : name_of 0 ≡ start
  first_name = get_or_from_slice_get names 0 start start begins

  ends_within : (path : List (Transition ℕ)) (p q : ℕ) → Within p → IsPath (graph_of m) p path q → Within q
  ends_within [] p q low leads = subst Within leads low
  ends_within (t ∷ path) p q low leads = ends_within path t.arc.next q (renames.within p t.place t.arc low leads.0.1) leads.1

  -- a successful path of the machine, by the names of its states, is one of the graph
  named_successful : (path : List (Transition ℕ)) (w : Cost) → IsSuccessful kind (graph_of m) path w → IsSuccessful kind g (moved name_of path) w
  named_successful path w s =
      let zero : s.first ≡ 0 = let e : Some s.first ≡ Some 0 = sym s.starts ∙ machine_starts in cc in
      let leads : IsPath (graph_of m) 0 path s.last = subst (λ (p : ℕ). IsPath (graph_of m) p path s.last) zero s.leads in
      let final : g.final (name_of s.last) ≡ (graph_of m).final s.last = renames.final s.last (ends_within path 0 s.last some leads) in
      record {
        first = name_of 0;
        last = name_of s.last;
        starts = starts_here ∙ ap Some (sym first_name);
        leads = moved-IsPath name_of (graph_of m) g Within renames 0 s.last path some leads;
        final = λ e. s.final (sym final ∙ e);
        weight = s.weight ∙ ap₂ (times kind) (ap (product kind) (sym (moved-letters name_of path))) (sym final);
      }

  -- and each of the graph is one of these
  numbered_successful : (path : List (Transition N)) (w : Cost) → IsSuccessful kind g path w → (old : List (Transition ℕ)) × IsSuccessful kind (graph_of m) old w × (moved name_of old ≡ path)
  numbered_successful path w s =
      let zero : s.first ≡ name_of 0 = let e : Some s.first ≡ Some start = sym s.starts ∙ starts_here in (let same : s.first ≡ start = cc in same ∙ sym first_name) in
      let leads : IsPath g (name_of 0) path s.last = subst (λ (p : N). IsPath g p path s.last) zero s.leads in
      let back = moved_back name_of (graph_of m) g Within renames 0 s.last path some leads in
      let final : g.final s.last ≡ (graph_of m).final back.1 = ap g.final (sym back.4) ∙ renames.final back.1 back.5 in
      let said : letters path ≡ letters back.0 = ap letters (sym back.3) ∙ moved-letters name_of back.0 in (
        back.0,
        record {
          first = 0;
          last = back.1;
          starts = machine_starts;
          leads = back.2;
          final = λ e. s.final (final ∙ e);
          weight = s.weight ∙ ap₂ (times kind) (ap (product kind) said) final;
        },
        back.3,
      )

  -- the first paths of the machine, by the names of their states, are those of the graph
  pub named_first : (n : ℕ) (paths : List (WeightedPath ℕ)) → IsFirst kind (graph_of m) n paths → IsFirst kind g n (map (renamed_path name_of) paths)
  named_first n paths first = record {
    few = let long = length-map paths (renamed_path name_of) in let few = first.few in omega (arith, long, few);
    ascends = renamed-Ascends name_of paths first.ascends;
    successful = λ b has.
        let r = mapped_Has (renamed_path name_of) paths b has in
        subst (λ (z : WeightedPath N). IsSuccessful kind g z.path z.weight) r.2 (named_successful r.0.path r.0.weight (first.successful r.0 r.1));
    others = λ b s. by_others b s;
  }
    where
      Others : WeightedPath N → Type 0
      Others b = Has (map (renamed_path name_of) paths) b ⊎ ((length (map (renamed_path name_of) paths) ≡ n) × ((c : WeightedPath N) → Has (map (renamed_path name_of) paths) c → path_cmp c b ≡ Less))

      by_others : (b : WeightedPath N) → IsSuccessful kind g b.path b.weight → Others b
      by_others b s =
          let old = numbered_successful b.path b.weight s in
          let a : WeightedPath ℕ = record { path = old.0; weight = b.weight } in
          let same : renamed_path name_of a ≡ b = λ i. record { path = old.2 i; weight = b.weight } in
          subst Others same (by a (first.others a old.1))
        where
          by : (a : WeightedPath ℕ) → Has paths a ⊎ ((length paths ≡ n) × ((c : WeightedPath ℕ) → Has paths c → path_cmp c a ≡ Less)) → Others (renamed_path name_of a)
          by a (inl has) = inl (Has-map (renamed_path name_of) paths a has)
          by a (inr full) = inr (
            length-map paths (renamed_path name_of) ∙ full.0,
            λ c has.
                let r = mapped_Has (renamed_path name_of) paths c has in
                subst (λ (z : WeightedPath N). path_cmp z (renamed_path name_of a) ≡ Less) r.2 (renamed_cmp name_of r.0 a ∙ full.1 r.0 r.1),
          )

  -- an improving cycle of the machine is one of the graph
  pub named_improves : (p : ℕ) (cycle : List (Transition ℕ)) → IsUseful (graph_of m) p → IsImprovingCycle (graph_of m) kind p cycle → Improves kind g
  named_improves p cycle useful improves =
      let a = useful.0 in
      let b = useful.1 in
      let zero : a.first ≡ 0 = let e : Some a.first ≡ Some 0 = sym a.starts ∙ machine_starts in cc in
      let there : IsPath (graph_of m) 0 a.path p = subst (λ (q : ℕ). IsPath (graph_of m) q a.path p) zero a.leads in
      let low = ends_within a.path 0 p some there in
      record {
        name = name_of p;
        cycle = moved name_of cycle;
        useful = (
          record { first = name_of 0; path = moved name_of a.path; starts = starts_here ∙ ap Some (sym first_name); leads = moved-IsPath name_of (graph_of m) g Within renames 0 p a.path some there },
          record {
            last = name_of b.last;
            path = moved name_of b.path;
            leads = moved-IsPath name_of (graph_of m) g Within renames p b.last b.path low b.leads;
            final = λ e. b.final (sym (renames.final b.last (ends_within b.path p b.last low b.leads)) ∙ e);
          },
        );
        improves = record {
          leads = moved-IsPath name_of (graph_of m) g Within renames p p cycle low improves.leads;
          better = ap (λ (ls : List Letter). cost_cmp (product kind ls) (one_of kind)) (moved-letters name_of cycle) ∙ improves.better;
        };
      }

  -- and one of the graph is one of the machine, where the names are different
  pub numbered_improves : Apart names → Improves kind g → (p : ℕ) × (cycle : List (Transition ℕ)) × IsUseful (graph_of m) p × IsImprovingCycle (graph_of m) kind p cycle
  numbered_improves apart i =
      let a = i.useful.0 in
      let b = i.useful.1 in
      let zero : a.first ≡ name_of 0 = let e : Some a.first ≡ Some start = sym a.starts ∙ starts_here in (let same : a.first ≡ start = cc in same ∙ sym first_name) in
      let there : IsPath g (name_of 0) a.path i.name = subst (λ (q : N). IsPath g q a.path i.name) zero a.leads in
      let one = moved_back name_of (graph_of m) g Within renames 0 i.name a.path some there in
      let onward : IsPath g (name_of one.1) b.path b.last = subst (λ (q : N). IsPath g q b.path b.last) (sym one.4) b.leads in
      let two = moved_back name_of (graph_of m) g Within renames one.1 b.last b.path one.5 onward in
      let round : IsPath g (name_of one.1) i.cycle i.name = subst (λ (q : N). IsPath g q i.cycle i.name) (sym one.4) i.improves.leads in
      let three = moved_back name_of (graph_of m) g Within renames one.1 i.name i.cycle one.5 round in
      let same : three.1 ≡ one.1 = Apart_at names three.1 one.1 i.name apart (slice_get-get_or names three.1 start three.5 ∙ ap Some three.4) (slice_get-get_or names one.1 start one.5 ∙ ap Some one.4) in
      let said : letters i.cycle ≡ letters three.0 = ap letters (sym three.3) ∙ moved-letters name_of three.0 in (
        one.1,
        three.0,
        (
          record { first = 0; path = one.0; starts = machine_starts; leads = one.2 },
          record { last = two.1; path = two.0; leads = two.2; final = λ e. b.final (ap g.final (sym two.4) ∙ (renames.final two.1 two.5 ∙ e)) },
        ),
        record {
          leads = subst (λ (q : ℕ). IsPath (graph_of m) one.1 three.0 q) same three.2;
          better = ap (λ (ls : List Letter). cost_cmp (product kind ls) (one_of kind)) (sym said) ∙ i.improves.better;
        },
      )
