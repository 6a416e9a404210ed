-- Every promise of these definitions in one record, so that one value of it keeps them all. It is in the crate `claims`.
-- Assumes nothing.
use Rattle.integers.specs.Division.{FloorDivision, Divisibility, CeilingDivision, SameNumberMeans}
use Rattle.integers.specs.Gcd.{EuclidsRule, GcdIsGreatest}
use Rattle.scope.specs.promises.Meaning.{PatternsAre, LatticeMeans, SuitsMeans, LowerMeans, InsideMeans, ChainIsFirst, TestsMean, LegalCallsAnswer}
use Rattle.scope.specs.promises.Demand.{LastStoredMeans, Demand3}
use Rattle.scope.specs.promises.SumPromises.{SumsKept}
use Rattle.scope.specs.promises.PlanPromises.{NormalFormIsOnly, FinderIsLeast, FinderNone, FinderDecides, FinderOrder, BoxIsGreatest, FinderStaysWithin, LimitIsEnough, CountIsLeast, SurplusIsExcess, ClashIsFirst, CheckDecides}
use Rattle.scope.specs.promises.CyclePromises.{SuitsForMeans, CyclesPart, LongClashes, LeastInCyclesEach}
use Rattle.scope.specs.promises.PicturePromises.{FormulasAre, BanksAreClasses, PixelsHaveWords, ReverseMap, PictureCalls, RefusalsChangeNothing, RingKeepsBanks}
use Rattle.scope.specs.promises.RefusalPromises.{CallsRefuse, RecordRefuses, ReaderRefuses}
use Rattle.scope.specs.promises.OneCyclePromises.{OneCycleIsBefore, KeptAtOne}
use Rattle.scope.specs.promises.BookPromises.{TwosComplement, BytesMean, ReadAfterWrite, WriteAfterRead, PixelsAscend, PartsAre, UnusedDontCount, ReaderSetsZero, DecimalMeans, ProgramWrites}

pub record Promises : Type 0 where
  -- whole numbers
  pub floor_division : FloorDivision
  pub divisibility : Divisibility
  pub ceiling_division : CeilingDivision
  pub same_number_means : SameNumberMeans
  pub euclids_rule : EuclidsRule
  pub gcd_is_greatest : GcdIsGreatest
  -- what the lists and tests mean
  pub patterns_are : PatternsAre
  pub lattice_means : LatticeMeans
  pub suits_means : SuitsMeans
  pub lower_means : LowerMeans
  pub inside_means : InsideMeans
  pub chain_is_first : ChainIsFirst
  pub tests_mean : TestsMean
  pub legal_calls_answer : LegalCallsAnswer
  -- refusals
  pub calls_refuse : CallsRefuse
  pub record_refuses : RecordRefuses
  pub reader_refuses : ReaderRefuses
  -- the normal form, the finder and the check
  pub normal_form_is_only : NormalFormIsOnly
  pub finder_is_least : FinderIsLeast
  pub finder_none : FinderNone
  pub finder_decides : FinderDecides
  pub finder_order : FinderOrder
  pub box_is_greatest : BoxIsGreatest
  pub finder_stays_within : FinderStaysWithin
  pub limit_is_enough : LimitIsEnough
  pub count_is_least : CountIsLeast
  pub surplus_is_excess : SurplusIsExcess
  pub clash_is_first : ClashIsFirst
  pub check_decides : CheckDecides
  -- plans for r cycles
  pub suits_for_means : SuitsForMeans
  pub cycles_part : CyclesPart
  pub long_clashes_lem : LongClashes
  pub least_in_cycles : LeastInCyclesEach
  pub one_cycle_is_before : OneCycleIsBefore
  pub kept_at_one : KeptAtOne
  -- banks, addresses and the calls on a picture
  pub formulas_are : FormulasAre
  pub banks_are_classes : BanksAreClasses
  pub pixels_have_words : PixelsHaveWords
  pub reverse_map : ReverseMap
  pub picture_calls : PictureCalls
  pub refusals_change_nothing : RefusalsChangeNothing
  pub ring_keeps_banks : RingKeepsBanks
  -- books and the program
  pub twos_complement : TwosComplement
  pub bytes_mean : BytesMean
  pub read_after_write : ReadAfterWrite
  pub write_after_read : WriteAfterRead
  pub pixels_ascend : PixelsAscend
  pub parts_are : PartsAre
  pub unused_dont_count : UnusedDontCount
  pub reader_sets_zero : ReaderSetsZero
  pub decimal_means : DecimalMeans
  pub program_writes : ProgramWrites
  -- demand 3
  pub last_stored_means : LastStoredMeans
  pub demand_3 : Demand3
  -- the sums of the banks
  pub sums_kept : SumsKept
