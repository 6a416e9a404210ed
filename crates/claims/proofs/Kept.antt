-- Every promise of the definitions is kept: one value of the record that lists them.
-- Assumes nothing.
use Rattle.integers.proofs.Divisions.{floor_division, divisibility, ceiling_division, same_number_means}
use Rattle.integers.proofs.Bezout.{euclids_rule, gcd_is_greatest}
use Rattle.scope.specs.promises.Promises.{Promises}
use Rattle.scope.proofs.PlanFacts.{inside_iff}
use Rattle.checks.proofs.Chains.{chain_is_first}
use Rattle.checks.proofs.Orders.{lower_iff}
use Rattle.checks.proofs.BookRefusals.{record_refuses}
use Rattle.checks.proofs.Legal.{legal_calls_answer, refusals_change_nothing}
use Rattle.lattice.proofs.Membership.{lattice_means}
use Rattle.lattice.proofs.NormalForm.{normal_form_is_only}
use Rattle.lattice.proofs.SameBank.{banks_are_classes}
use Rattle.lattice.proofs.Words.{pixels_have_words}
use Rattle.lattice.proofs.Reverse.{reverse_map}
use Rattle.lattice.proofs.Rings.{ring_keeps_banks}
use Rattle.lattice.proofs.Suits.{suits_means}
use Rattle.lattice.proofs.Classes.{suits_for_means_classes}
use Rattle.lattice.proofs.LongClashes.{long_clashes_lem}
use Rattle.lattice.proofs.Cycles.{cycles_part}
use Rattle.lattice.proofs.Formulas.{patterns_are, formulas_are}
use Rattle.lattice.proofs.TestMeanings.{tests_mean}
use Rattle.book.proofs.Unused.{reader_sets_zero}
use Rattle.book.proofs.UnusedCalls.{unused_dont_count}
use Rattle.text.proofs.Decimal.{decimal_means}
use Rattle.text.proofs.ProgramText.{program_writes}
use Rattle.book.proofs.Bytes.{twos_complement}
use Rattle.book.proofs.ReadWrite.{bytes_mean, read_after_write, write_after_read}
use Rattle.book.proofs.SameBooks.{pixels_ascend}
use Rattle.book.proofs.Parts.{parts_are}
use Rattle.book.proofs.ReaderRefusals.{reader_refuses}
use Rattle.finder.proofs.Least.{finder_is_least, finder_none, finder_decides, finder_order}
use Rattle.finder.proofs.LeastCycles.{least_in_cycles}
use Rattle.finder.proofs.OneCycleCalls.{one_cycle_is_before}
use Rattle.finder.proofs.KeptAtOne.{kept_at_one}
use Rattle.finder.proofs.Boxes.{box_is_greatest}
use Rattle.finder.proofs.Bounds.{finder_stays_within, limit_is_enough}
use Rattle.finder.proofs.LeastCounts.{count_is_least}
use Rattle.finder.proofs.Clashes.{clash_is_first}
use Rattle.finder.proofs.Checks.{check_decides, surplus_is_excess}
use Rattle.pictures.proofs.Pictures.{picture_calls}
use Rattle.claims.proofs.CallRefusals.{calls_refuse}
use Rattle.pictures.proofs.LastStored.{last_stored_means}
use Rattle.pictures.proofs.DemandHolds.{demand_3}
use Rattle.pictures.proofs.KeptSums.{sums_kept}

-- Each promise, and the law that keeps it.
pub promises_kept : Promises
promises_kept =
    record {
      floor_division = floor_division;
      divisibility = divisibility;
      ceiling_division = ceiling_division;
      same_number_means = same_number_means;
      euclids_rule = euclids_rule;
      gcd_is_greatest = gcd_is_greatest;
      patterns_are = patterns_are;
      lattice_means = lattice_means;
      suits_means = suits_means;
      lower_means = lower_iff;
      inside_means = inside_iff;
      chain_is_first = chain_is_first;
      tests_mean = tests_mean;
      legal_calls_answer = legal_calls_answer;
      calls_refuse = calls_refuse;
      record_refuses = record_refuses;
      reader_refuses = reader_refuses;
      normal_form_is_only = normal_form_is_only;
      finder_is_least = finder_is_least;
      finder_none = finder_none;
      finder_decides = finder_decides;
      finder_order = finder_order;
      box_is_greatest = box_is_greatest;
      finder_stays_within = finder_stays_within;
      limit_is_enough = limit_is_enough;
      count_is_least = count_is_least;
      surplus_is_excess = surplus_is_excess;
      clash_is_first = clash_is_first;
      check_decides = check_decides;
      suits_for_means = suits_for_means_classes;
      cycles_part = cycles_part;
      long_clashes_lem = long_clashes_lem;
      least_in_cycles = least_in_cycles;
      one_cycle_is_before = one_cycle_is_before;
      kept_at_one = kept_at_one;
      formulas_are = formulas_are;
      banks_are_classes = banks_are_classes;
      pixels_have_words = pixels_have_words;
      reverse_map = reverse_map;
      picture_calls = picture_calls;
      refusals_change_nothing = refusals_change_nothing;
      ring_keeps_banks = ring_keeps_banks;
      twos_complement = twos_complement;
      bytes_mean = bytes_mean;
      read_after_write = read_after_write;
      write_after_read = write_after_read;
      pixels_ascend = pixels_ascend;
      parts_are = parts_are;
      unused_dont_count = unused_dont_count;
      reader_sets_zero = reader_sets_zero;
      decimal_means = decimal_means;
      program_writes = program_writes;
      last_stored_means = last_stored_means;
      demand_3 = demand_3;
      sums_kept = sums_kept;
    }
