-- What a memory desk does keeps what the trait promises.
use Rattle.std.proofs.Common.{◌≡◌, ℕ, ◌≤◌, Bool, List, [], ◌∷◌, ◌++◌, take, drop, Option, None, Result, Ok, Err, refl, sym, arith}
use Rattle.std.specs.Str.{bytes_eq}
use Rattle.std.proofs.lemmas.Slice.Eq.{bytes_eq-Decides}
use Rattle.std.proofs.lemmas.List.{take-append-drop}
use Rattle.std.proofs.lemmas.Grind.{common_steps}
use Rattle.std.proofs.lemmas.Bool.Decides.{nat_tests}
use Rattle.fst_desk.specs.Seen.{Rises, raised}
use Rattle.fst_desk.specs.Desk.{Holds, Stores, DeskShows}
use Rattle.fst_desk.specs.Kept.{Kept, last_of, seen_of, KeptStores, KeptShows}
use Rattle.fst_desk.specs.Sure.{Sure, sure_seen, SureStores}
use Rattle.fst_desk.specs.declared.edge.StoreFault.{StoreFault}
use Rattle.fst_desk.specs.declared.edge.StoreFault.TheVariants as storing

-- a count that is raised rose, or stands at its type's end
pub Rises-raised : (n : ℕ) → Rises n (raised n)
Rises-raised n = grind (arith, nat_tests)

-- a count that is raised did not fall
pub raised-le : (n : ℕ) → n ≤ raised n
raised-le n = grind (arith, nat_tests)

-- the last of a longer list is the last of the later pairs, after those in front
pub last_of-append : {K V : Type 0} (same : K → K → Bool) (found : Option V) (front back : List (K × V)) (key : K) →
    last_of same found (front ++ back) key ≡ last_of same (last_of same found front key) back key
last_of-append same found [] back key = refl
last_of-append same found (pair ∷ front) back key = last_of-append same _ front back key

-- a write behind others puts its content under its name alone
pub Holds-written : (name content : List ℕ) (writes : List (List ℕ × List ℕ)) →
    Holds name content (last_of bytes_eq None writes) (last_of bytes_eq None (writes ++ (name, content) ∷ []))
Holds-written name content writes = record {
  here = grind (arith, common_steps, last_of-append, bytes_eq-Decides);
  elsewhere = λ other apart. grind (arith, common_steps, last_of-append, bytes_eq-Decides);
}

-- the exact behaviour of a store keeps the promise of a store
pub Stores-kept : (name bytes : List ℕ) (old new : Kept) (result : Result Unit StoreFault) →
    KeptStores name bytes old new result → Stores name bytes (seen_of old) (seen_of new) result
Stores-kept name bytes old new (Ok done) s = rw s.after record {
  missed = refl;
  taken = refl;
  write_faults = omega arith;
  starved = omega arith;
  fetches = refl;
  stores = refl;
  showing = refl;
  answer = record { told = Holds-written name bytes old.writes; write_faults = refl; starved = refl };
}
Stores-kept name bytes old new (Err storing.Failed) s = rw s.after record {
  missed = refl;
  taken = refl;
  write_faults = raised-le old.write_faults;
  starved = omega arith;
  fetches = refl;
  stores = refl;
  showing = refl;
  answer = record {
    front = take s.most bytes;
    rest = drop s.most bytes;
    splits = sym (take-append-drop s.most bytes);
    told = Holds-written name (take s.most bytes) old.writes;
    write_faults = Rises-raised old.write_faults;
    starved = refl;
  };
}
Stores-kept name bytes old new (Err storing.Memory) s = rw s record {
  missed = refl;
  taken = refl;
  write_faults = omega arith;
  starved = raised-le old.starved;
  fetches = refl;
  stores = refl;
  showing = refl;
  answer = record { told = refl; write_faults = refl; starved = Rises-raised old.starved };
}

-- the exact behaviour of a show keeps the promise of a show
pub DeskShows-kept : (line : List ℕ) (old new : Kept) (result : Result Unit StoreFault) →
    KeptShows line old new result → DeskShows line (seen_of old) (seen_of new) result
DeskShows-kept line old new (Ok done) s = rw s.after record {
  filed = refl;
  show_faults = omega arith;
  show_starved = omega arith;
  shows = refl;
  answer = record { shown = refl; show_faults = refl; show_starved = refl };
}
DeskShows-kept line old new (Err storing.Failed) s = rw s.after record {
  filed = refl;
  show_faults = raised-le old.show_faults;
  show_starved = omega arith;
  shows = refl;
  answer = record {
    front = take s.most line;
    rest = drop s.most line;
    splits = sym (take-append-drop s.most line);
    shown = refl;
    show_faults = Rises-raised old.show_faults;
    show_starved = refl;
  };
}
DeskShows-kept line old new (Err storing.Memory) s = rw s record {
  filed = refl;
  show_faults = omega arith;
  show_starved = raised-le old.show_starved;
  shows = refl;
  answer = record { shown = refl; show_faults = refl; show_starved = Rises-raised old.show_starved };
}

-- the same of a desk of which no call fails: its exact behaviour keeps the promise of a store
pub Stores-sure : (name bytes : List ℕ) (old new : Sure) (result : Result Unit StoreFault) →
    SureStores name bytes old new result → Stores name bytes (sure_seen old) (sure_seen new) result
Stores-sure name bytes old new (Ok done) s = rw s record {
  missed = refl;
  taken = refl;
  write_faults = omega arith;
  starved = omega arith;
  fetches = refl;
  stores = refl;
  showing = refl;
  answer = record { told = Holds-written name bytes old.writes; write_faults = refl; starved = refl };
}
Stores-sure name bytes old new (Err storing.Failed) s = absurd s
Stores-sure name bytes old new (Err storing.Memory) s = rw s record {
  missed = refl;
  taken = refl;
  write_faults = omega arith;
  starved = raised-le old.starved;
  fetches = refl;
  stores = refl;
  showing = refl;
  answer = record { told = refl; write_faults = refl; starved = Rises-raised old.starved };
}
