-- Reading symbol after symbol, as a loop does.
use Rattle.std.proofs.Common.{◌≡◌, ℕ, suc, ◌+◌, ◌-◌, ◌<◌, ◌≤◌, List, Result, Ok, Err, refl, sym, ◌∙◌, arith}
use Rattle.fst_bytes.specs.Stopping.{Stops}
use Rattle.fst_bytes.specs.declared.fault.Stopped.{Stopped}
use Rattle.fst_bytes.specs.declared.fault.Stopped.TheVariants.{At, Memory}
use Rattle.fst_symbols.specs.Symbols.{Symbol}
use Rattle.fst_binary.specs.declared.fault.BinaryKind.{BinaryKind}
use Rattle.fst_binary.specs.Faults.{BinaryFault}
use Rattle.fst_binary.specs.Tables.{with_symbol_at, with_symbols_at}

module _ (before : List Symbol) (bytes : List ℕ) (count i at : ℕ) (total : Result (List Symbol × ℕ) BinaryFault) (so_far : with_symbols_at (count - i) before bytes at ≡ total) where
  -- one symbol more is read
  pub symbols_go_on : (more : List Symbol) (after : ℕ) → i < count → with_symbol_at before bytes at ≡ Ok (more, after) → with_symbols_at (count - (i + 1)) more bytes after ≡ total
  unfolding with_symbols_at
  symbols_go_on more after low read =
      let k : count - i ≡ suc (count - (i + 1)) = omega arith in
      let one : with_symbols_at (count - i) before bytes at ≡ with_symbols_at (count - (i + 1)) more bytes after = rw (k, read) refl in
      sym one ∙ so_far

  -- why one is not read is why all are not
  pub symbols_stop : (stopped : Stopped BinaryKind) → i < count → Stops stopped (with_symbol_at before bytes at) → Stops stopped total
  unfolding with_symbols_at
  symbols_stop (At fault) low read =
      let k : count - i ≡ suc (count - (i + 1)) = omega arith in
      let one : with_symbols_at (count - i) before bytes at ≡ Err fault = rw (k, read) refl in
      sym so_far ∙ one
  symbols_stop Memory low read = tt

  -- nothing is left
  pub symbols_are_read : count ≤ i → total ≡ Ok (before, at)
  unfolding with_symbols_at
  symbols_are_read none =
      let k : count - i ≡ 0 = omega arith in
      let one : with_symbols_at (count - i) before bytes at ≡ Ok (before, at) = rw k refl in
      sym so_far ∙ one
