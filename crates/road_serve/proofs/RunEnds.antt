-- Each way out of a run ends it as promised.
use Rattle.std.proofs.Common.{◌≡◌, ◌≤◌, ◌<◌, ◌==◌, ◌+◌, ◌-◌, min, ℕ, zero, suc, List, [], ◌∷◌, ◌++◌, length, take, Bool, true, false, Option, Some, None, Result, Ok, Err, inl, refl, ap, sym, subst, ◌∙◌, append-nil, length-append, arith}
use Rattle.std.specs.Prelude.{nat_lt, nat_le}
use Rattle.std.proofs.lemmas.Bool.{le-leb, le-ltb, lt-ltb, ltb-false}
use Rattle.std.proofs.lemmas.List.{take_all, length-take-le}
use Rattle.std.proofs.Math.Seq.{take-append-add}
use Rattle.std.proofs.Math.Dec.{eqb-suc-zero}
use Rattle.std.proofs.KnownBytes.{Appends-nil, Consumes-nil, Consumes-trans, Consumes-kept}
use Rattle.std.specs.Io.KnownBytes.{Appends, Consumes, IsAtEnd, Keeps}
use Rattle.road_format.specs.Cut.{lines_of}
use Rattle.road_commands.specs.Laboratory.{Laboratory}
use Rattle.road_serve.specs.Answers.{later_lines, answers, answers_within, has_crowd, has_crowd_within, is_plan_refused, is_plan_refused_within, has_more_lines, has_byte_past_most, reply_count}
use Rattle.road_serve.specs.Dialogue.{IsAfterLines, HasAnswered, HasFinished, GoesOn, IsAfterBytes, IsAfterInput}
use Rattle.road_serve.specs.Failures.{RisesByOne}
use Rattle.road_workers.specs.declared.faults.CrewFault.{CrewFault}
use Rattle.road_workers.specs.declared.faults.CrewFault.TheVariants as crew_faults
use Rattle.road_serve.specs.Faults.{CountsGone, crew_fault, early_fault}
use Rattle.road_serve.specs.Serving.{Serving, run_answers, WritesAll, Ends, AnswersInput}
use Rattle.road_serve.specs.Statuses.{after_failed_read}
use Rattle.road_serve.specs.StreamViews.{SourceView, SinkView, Stops}
use Rattle.road_serve.specs.Dialogue.{Dialogue}
use Rattle.road_serve.specs.declared.faults.EarlyEnd.{EarlyEnd}
use Rattle.road_serve.specs.declared.faults.EarlyEnd.TheVariants as ends
use Rattle.road_serve.specs.declared.faults.ServeFault.{ServeFault}
use Rattle.road_serve.specs.declared.faults.ServeFault.TheVariants as faults
use Rattle.road_serve.specs.declared.serving.Served.{Served}
use Rattle.road_serve.proofs.AnswersGrow.{few_lines}
use Rattle.road_serve.proofs.DialogueSteps.{goes_on}
use Rattle.road_serve.proofs.DialogueCalls.{stops_same}
use Rattle.road_serve.proofs.DialogueEnds.{going_accepted}
use Rattle.road_serve.proofs.GoneCounts.{counts_same, early_counts}
use Rattle.road_serve.proofs.SinkTexts.{takes_none, takes_same, taken_all, rises_after}

-- ---- bytes within the limit

zero-min : (b : ℕ) → min zero b ≡ zero
zero-min b = omega arith

suc-min : (a b : ℕ) → min (suc a) (suc b) ≡ suc (min a b)
suc-min a b = omega arith

take_min : (a b : ℕ) (xs : List ℕ) → take a (take b xs) ≡ take (min a b) xs
take_min zero b xs = rw (zero-min b) refl
take_min (suc a) zero xs = let e : min (suc a) zero ≡ zero = omega arith in rw e refl
take_min (suc a) (suc b) [] = rw (suc-min a b) refl
take_min (suc a) (suc b) (x ∷ xs) = rw (suc-min a b) (ap (λ (t : List ℕ). x ∷ t) (take_min a b xs))

-- m of n more bytes are within the limit
pub record Within (limit room n m : ℕ) (h piece : List ℕ) : Type 0 where
  pub all : length h + room ≡ limit
  pub least : m ≡ min room n
  pub fits : n ≤ length piece

within : (limit room n m : ℕ) (h piece : List ℕ) → Within limit room n m h piece → take limit (h ++ take n piece) ≡ h ++ take m piece
within limit room n m h piece w =
    ap (λ (k : ℕ). take k (h ++ take n piece)) (sym w.all) ∙ take-append-add h (take n piece) room
    ∙ ap (λ (x : List ℕ). h ++ x) (take_min room n piece ∙ ap (λ (k : ℕ). take k piece) (sym w.least))

whole : (limit : ℕ) (h : List ℕ) → length h ≤ limit → take limit h ≡ h
whole limit h short = take_all limit h short

answers_going : (lines limit : ℕ) (z : List ℕ) → answers_within lines limit z false ≡ answers lines (take limit z) false
unfolding answers_within
answers_going lines limit z = refl

crowd_going : (lines limit : ℕ) (z : List ℕ) → has_crowd_within lines limit z false ≡ has_crowd lines (take limit z) false
unfolding has_crowd_within
crowd_going lines limit z = refl

refused_going : (limit : ℕ) (z : List ℕ) → is_plan_refused_within limit z false ≡ is_plan_refused (take limit z) false
unfolding is_plan_refused_within
refused_going limit z = refl

answers_ended : (lines limit : ℕ) (h : List ℕ) → length h ≤ limit → answers_within lines limit h true ≡ answers lines h true
unfolding answers_within
answers_ended lines limit h short =
    let fits : nat_le (length h) limit ≡ true = le-leb _ _ short in
    let all = whole limit h short in
    rw (all, fits) refl

crowd_ended_within : (lines limit : ℕ) (h : List ℕ) → length h ≤ limit → has_crowd_within lines limit h true ≡ has_crowd lines h true
unfolding has_crowd_within
crowd_ended_within lines limit h short =
    let fits : nat_le (length h) limit ≡ true = le-leb _ _ short in
    let all = whole limit h short in
    rw (all, fits) refl

refused_ended : (limit : ℕ) (h : List ℕ) → length h ≤ limit → is_plan_refused_within limit h true ≡ is_plan_refused h true
unfolding is_plan_refused_within
refused_ended limit h short =
    let fits : nat_le (length h) limit ≡ true = le-leb _ _ short in
    let all = whole limit h short in
    rw (all, fits) refl

past_ended : (lines limit : ℕ) (h : List ℕ) → length h ≤ limit → has_more_lines lines h ≡ false → has_byte_past_most lines limit h ≡ false
unfolding has_byte_past_most
past_ended lines limit h short few = let fits : nat_lt limit (length h) ≡ false = le-ltb limit (length h) short in rw (fits, few) refl

count_ended : (lines limit : ℕ) (h : List ℕ) → length h ≤ limit → has_more_lines lines h ≡ false → reply_count lines limit h ≡ length (later_lines (lines_of h true))
unfolding reply_count
count_ended lines limit h short few =
    let fits : nat_le (length h) limit ≡ true = le-leb _ _ short in
    let all = whole limit h short in
    let lines_all = take_all (suc lines) (lines_of h true) (few_lines lines h few) in
    rw (all, fits) (ap (λ (ls : List (List ℕ)). length (later_lines ls)) lines_all)

past_bytes : (lines limit : ℕ) (z : List ℕ) → limit < length z → has_byte_past_most lines limit z ≡ true
unfolding has_byte_past_most
past_bytes lines limit z past = let more : nat_lt limit (length z) ≡ true = lt-ltb limit (length z) past in rw more refl

by_limit : (lines limit : ℕ) (z : List ℕ) (b : Bool) → nat_lt limit (length z) ≡ b → has_more_lines lines (take limit z) ≡ true → has_byte_past_most lines limit z ≡ true
unfolding has_byte_past_most
by_limit lines limit z true e more = rw e refl
by_limit lines limit z false e more = let all = whole limit z (ltb-false limit (length z) e) in rw e (ap (has_more_lines lines) (sym all) ∙ more)

past_lines : (lines limit : ℕ) (z : List ℕ) → has_more_lines lines (take limit z) ≡ true → has_byte_past_most lines limit z ≡ true
past_lines lines limit z more = by_limit lines limit z (nat_lt limit (length z)) refl more

-- ---- the loop: some input was read and answered, and no call failed

pub record SoFar (lines limit room : ℕ) (source source' : SourceView) (sink sink' : SinkView) (d : Dialogue) : Type 0 where
  pub input : List ℕ
  pub read : Consumes source.remaining source'.remaining input
  pub answered : HasAnswered lines input sink sink' d
  pub going : d.over ≡ None
  pub none_wait : d.waiting ≡ []
  pub room_left : length input + room ≡ limit
  pub reads_well : source'.failures ≡ source.failures

pub at_first : (lines limit : ℕ) (source : SourceView) (sink : SinkView) (d : Dialogue) → HasAnswered lines [] sink sink d → d.over ≡ None → d.waiting ≡ [] → SoFar lines limit limit source source sink sink d
at_first lines limit source sink d h going none = record {
  input = [];
  read = Consumes-nil source.remaining;
  answered = h;
  going = going;
  none_wait = none;
  room_left = omega arith;
  reads_well = refl;
}

-- a further read
pub record ReadMore (source source' : SourceView) (n : ℕ) (piece : List ℕ) : Type 0 where
  pub bytes : Consumes source.remaining source'.remaining (take n piece)
  pub fits : n ≤ length piece
  pub ended : source'.at_end ≡ (n == 0)
  pub well : source'.failures ≡ source.failures

pub read_on : (lines limit room room' n m : ℕ) (source s1 s2 : SourceView) (sink k1 k2 : SinkView) (d d' : Dialogue) (piece : List ℕ) (so : SoFar lines limit room source s1 sink k1 d) → ReadMore s1 s2 n piece
    → m ≡ min room n → n ≤ m → room' ≡ room - n → HasAnswered lines (so.input ++ take m piece) sink k2 d' → d'.over ≡ None → d'.waiting ≡ [] → SoFar lines limit room' source s2 sink k2 d'
read_on lines limit room room' n m source s1 s2 sink k1 k2 d d' piece so more least all less h going none =
    let same : m ≡ n = omega arith in
    let Family : ℕ → Type 0 = λ k. HasAnswered lines (so.input ++ take k piece) sink k2 d' in
    record {
      input = so.input ++ take n piece;
      read = Consumes-trans source.remaining s1.remaining s2.remaining so.input (take n piece) so.read more.bytes;
      answered = subst Family same h;
      going = going;
      none_wait = none;
      room_left = omega (arith, so.room_left, length-append so.input (take n piece), length-take-le n piece more.fits);
      reads_well = more.well ∙ so.reads_well;
    }

abbrev run_of : ℕ → ℕ → SourceView → SourceView → SinkView → SinkView → ℕ → ℕ → Result Served ServeFault → Serving
run_of lines limit source source' sink sink' was gone result = record {
  most_lines = lines;
  most_bytes = limit;
  source_before = source;
  source_after = source';
  sink_before = sink;
  sink_after = sink';
  gone_before = was;
  gone_after = gone;
  result = result;
}

-- ---- a read failed

accepted_so_far : (lines limit : ℕ) (h : List ℕ) (d : Dialogue) → length h ≤ limit → GoesOn lines h d → is_plan_refused_within limit h false ≡ false
accepted_so_far lines limit h d short on =
    refused_going limit h ∙ ap (λ (x : List ℕ). is_plan_refused x false) (whole limit h short) ∙ going_accepted lines h d on

pub unread : (lines limit room : ℕ) (source s1 s2 : SourceView) (sink k1 : SinkView) (was gone : ℕ) (d : Dialogue) → SoFar lines limit room source s1 sink k1 d → Keeps s1.remaining s2.remaining → RisesByOne s1.failures s2.failures
    → gone ≡ was → AnswersInput (run_of lines limit source s2 sink k1 was gone (Err faults.Read))
unread lines limit room source s1 s2 sink k1 was gone d so keeps rises kept =
    let short : length so.input ≤ limit = omega (arith, so.room_left) in
    let same : answers lines so.input false ≡ answers_within lines limit so.input false = ap (λ (x : List ℕ). answers lines x false) (sym (whole limit so.input short)) ∙ sym (answers_going lines limit so.input) in
    let on = goes_on lines so.input sink k1 d so.answered so.going in
    record {
      input = so.input;
      read = Consumes-kept source.remaining s1.remaining s2.remaining so.input so.read keeps;
      ends = record {
        written = taken_all sink k1 _ (takes_same sink k1 _ _ _ _ same so.none_wait so.answered.answered);
        accepted = accepted_so_far lines limit so.input d short on;
        within = past_ended lines limit so.input short on.few;
        reads_failed = rises_after source.failures s1.failures s2.failures so.reads_well rises;
        writes_well = so.answered.well;
      };
      counts = kept;
    }

-- ---- a call of the dialogue stopped

ends_stopped : (run : Serving) (input : List ℕ) (fault : ServeFault) → Stops run.sink_before run.sink_after (run_answers run input) fault → run.source_after.failures ≡ run.source_before.failures → Ends run input (Err fault)
ends_stopped run input faults.OutOfMemory s well = record { stops = s; reads_well = well }
ends_stopped run input faults.WorkersGone s well = record { stops = s; reads_well = well }
ends_stopped run input faults.Write s well = record { stops = s; reads_well = well }
ends_stopped run input faults.BadPlan s well = absurd s
ends_stopped run input faults.Read s well = absurd s
ends_stopped run input faults.TooMany s well = absurd s

not_zero : (n : ℕ) → (n ≡ 0 → ⊥) → (n == 0) ≡ false
not_zero zero h = absurd (h refl)
not_zero (suc m) h = eqb-suc-zero m

pub stopped : (lines limit room n m : ℕ) (source s1 s2 : SourceView) (sink k1 k2 : SinkView) (was gone : ℕ) (d : Dialogue) (piece : List ℕ) (fault : ServeFault) (so : SoFar lines limit room source s1 sink k1 d) → ReadMore s1 s2 n piece → (n ≡ 0 → ⊥)
    → m ≡ min room n → Stops sink k2 (answers lines (so.input ++ take m piece) false) fault → CountsGone fault (has_crowd lines (so.input ++ take m piece) false) was gone
    → AnswersInput (run_of lines limit source s2 sink k2 was gone (Err fault))
stopped lines limit room n m source s1 s2 sink k1 k2 was gone d piece fault so more some least s counts =
    let input = so.input ++ take n piece in
    let part = within limit room n m so.input piece (record { all = so.room_left; least = least; fits = more.fits }) in
    let going : s2.at_end ≡ false = more.ended ∙ not_zero n some in
    let same : answers lines (so.input ++ take m piece) false ≡ answers_within lines limit input s2.at_end =
    ap (λ (x : List ℕ). answers lines x false) (sym part) ∙ sym (answers_going lines limit input) ∙ ap (answers_within lines limit input) (sym going) in
    record {
      input = input;
      read = Consumes-trans source.remaining s1.remaining s2.remaining so.input (take n piece) so.read more.bytes;
      ends = ends_stopped (run_of lines limit source s2 sink k2 was gone (Err fault)) input fault (stops_same sink k2 _ _ fault same s) (more.well ∙ so.reads_well);
      counts = counts_same fault _ _ was was gone (ap (λ (x : List ℕ). has_crowd lines x false) (sym part) ∙ sym (crowd_going lines limit input) ∙ ap (has_crowd_within lines limit input) (sym going)) refl counts;
    }

-- ---- the run is over before the end of its input

over_ends : (run : Serving) (input z : List ℕ) (d : Dialogue) (end : EarlyEnd) → take run.most_bytes input ≡ z → run.source_after.at_end ≡ false → WritesAll run input → IsAfterBytes run.most_lines z d (Some end) → Ends run input (Err (early_fault end))
over_ends run input z d ends.BadPlan part going writes s =
    (writes, ap (is_plan_refused_within run.most_bytes input) going ∙ refused_going run.most_bytes input ∙ ap (λ (x : List ℕ). is_plan_refused x false) part ∙ s.0)
over_ends run input z d ends.TooMany part going writes s = (
  writes,
  ap (is_plan_refused_within run.most_bytes input) going ∙ refused_going run.most_bytes input ∙ ap (λ (x : List ℕ). is_plan_refused x false) part ∙ s.0,
  past_lines run.most_lines run.most_bytes input (ap (has_more_lines run.most_lines) part ∙ s.1),
)

stands_at : (n : ℕ) (a : List ℕ) (d : Dialogue) (o o' : Option EarlyEnd) → o ≡ o' → IsAfterBytes n a d o → IsAfterBytes n a d o'
stands_at n a d o o' e s = let Family : Option EarlyEnd → Type 0 = λ x. IsAfterBytes n a d x in subst Family e s

writes_going : (lines limit room n m : ℕ) (source s1 s2 : SourceView) (sink k1 k2 : SinkView) (was gone : ℕ) (d d' : Dialogue) (piece : List ℕ) (result : Result Served ServeFault) (so : SoFar lines limit room source s1 sink k1 d) → ReadMore s1 s2 n piece → (n ≡ 0 → ⊥)
    → m ≡ min room n → HasAnswered lines (so.input ++ take m piece) sink k2 d' → d'.waiting ≡ [] → k2.flushed ≡ true → WritesAll (run_of lines limit source s2 sink k2 was gone result) (so.input ++ take n piece)
writes_going lines limit room n m source s1 s2 sink k1 k2 was gone d d' piece result so more some least h none flushed =
    let input = so.input ++ take n piece in
    let part = within limit room n m so.input piece (record { all = so.room_left; least = least; fits = more.fits }) in
    let going : s2.at_end ≡ false = more.ended ∙ not_zero n some in
    let same : answers lines (so.input ++ take m piece) false ≡ answers_within lines limit input s2.at_end =
    ap (λ (x : List ℕ). answers lines x false) (sym part) ∙ sym (answers_going lines limit input) ∙ ap (answers_within lines limit input) (sym going) in
    record {
      written = taken_all sink k2 _ (takes_same sink k2 _ _ _ _ same none h.answered);
      flushed = flushed;
      reads_well = more.well ∙ so.reads_well;
      writes_well = h.well;
    }

pub over : (lines limit room n m : ℕ) (source s1 s2 : SourceView) (sink k1 k2 : SinkView) (was gone : ℕ) (d d' : Dialogue) (piece : List ℕ) (end : EarlyEnd) (so : SoFar lines limit room source s1 sink k1 d) → ReadMore s1 s2 n piece → (n ≡ 0 → ⊥)
    → m ≡ min room n → HasAnswered lines (so.input ++ take m piece) sink k2 d' → d'.waiting ≡ [] → k2.flushed ≡ true → d'.over ≡ Some end → gone ≡ was → AnswersInput (run_of lines limit source s2 sink k2 was gone (Err (early_fault end)))
over lines limit room n m source s1 s2 sink k1 k2 was gone d d' piece end so more some least h none flushed is kept =
    let run = run_of lines limit source s2 sink k2 was gone (Err (early_fault end)) in
    let input = so.input ++ take n piece in
    record {
      input = input;
      read = Consumes-trans source.remaining s1.remaining s2.remaining so.input (take n piece) so.read more.bytes;
      ends = over_ends run input (so.input ++ take m piece) d' end (within limit room n m so.input piece (record { all = so.room_left; least = least; fits = more.fits })) (more.ended ∙ not_zero n some)
          (writes_going lines limit room n m source s1 s2 sink k1 k2 was gone d d' piece _ so more some least h none flushed) (stands_at lines _ d' _ _ is h.stands);
      counts = early_counts end _ was gone kept;
    }

-- ---- more bytes than are allowed

pub past : (lines limit room n m : ℕ) (source s1 s2 : SourceView) (sink k1 k2 : SinkView) (was gone : ℕ) (d d' : Dialogue) (piece : List ℕ) (so : SoFar lines limit room source s1 sink k1 d) → ReadMore s1 s2 n piece → (n ≡ 0 → ⊥)
    → m ≡ min room n → m < n → HasAnswered lines (so.input ++ take m piece) sink k2 d' → d'.waiting ≡ [] → k2.flushed ≡ true → d'.over ≡ None → gone ≡ was → AnswersInput (run_of lines limit source s2 sink k2 was gone (Err faults.TooMany))
past lines limit room n m source s1 s2 sink k1 k2 was gone d d' piece so more some least less h none flushed is kept =
    let input = so.input ++ take n piece in
    let part = within limit room n m so.input piece (record { all = so.room_left; least = least; fits = more.fits }) in
    let going : s2.at_end ≡ false = more.ended ∙ not_zero n some in
    record {
      input = input;
      read = Consumes-trans source.remaining s1.remaining s2.remaining so.input (take n piece) so.read more.bytes;
      ends = (
        writes_going lines limit room n m source s1 s2 sink k1 k2 was gone d d' piece _ so more some least h none flushed,
        ap (is_plan_refused_within limit input) going ∙ refused_going limit input ∙ ap (λ (x : List ℕ). is_plan_refused x false) part
            ∙ going_accepted lines (so.input ++ take m piece) d' (goes_on lines _ sink k2 d' h is),
        past_bytes lines limit input (omega (arith, so.room_left, least, less, length-append so.input (take n piece), length-take-le n piece more.fits)),
      );
      counts = kept;
    }

-- ---- the end of the input

nothing_more : (source s1 s2 : Option (List ℕ)) (h piece : List ℕ) (n : ℕ) → Consumes source s1 h → Consumes s1 s2 (take n piece) → n ≡ 0 → Consumes source s2 h
nothing_more source s1 s2 h piece n read more none =
    let Family : List ℕ → Type 0 = λ x. Consumes source s2 x in
    subst Family (ap (λ (k : ℕ). h ++ take k piece) none ∙ append-nil h) (Consumes-trans source s1 s2 h (take n piece) read more)

at_zero : (n : ℕ) → n ≡ 0 → (n == 0) ≡ true
at_zero zero e = refl
at_zero (suc n) e = absurd (omega arith)

pub stopped_at_end : (lines limit room n : ℕ) (source s1 s2 : SourceView) (sink k1 k2 : SinkView) (was gone : ℕ) (d : Dialogue) (piece : List ℕ) (fault : ServeFault) (so : SoFar lines limit room source s1 sink k1 d) → ReadMore s1 s2 n piece → n ≡ 0
    → Stops sink k2 (answers lines so.input true) fault → CountsGone fault (has_crowd lines so.input true) was gone → AnswersInput (run_of lines limit source s2 sink k2 was gone (Err fault))
stopped_at_end lines limit room n source s1 s2 sink k1 k2 was gone d piece fault so more none s counts =
    let ended : s2.at_end ≡ true = more.ended ∙ at_zero n none in
    let short : length so.input ≤ limit = omega (arith, so.room_left) in
    let same : answers lines so.input true ≡ answers_within lines limit so.input s2.at_end = sym (answers_ended lines limit so.input short) ∙ ap (answers_within lines limit so.input) (sym ended) in
    record {
      input = so.input;
      read = nothing_more source.remaining s1.remaining s2.remaining so.input piece n so.read more.bytes none;
      ends = ends_stopped (run_of lines limit source s2 sink k2 was gone (Err fault)) so.input fault (stops_same sink k2 _ _ fault same s) (more.well ∙ so.reads_well);
      counts = counts_same fault _ _ was was gone (sym (crowd_ended_within lines limit so.input short) ∙ ap (has_crowd_within lines limit so.input) (sym ended)) refl counts;
    }

writes_ended : (lines limit room n : ℕ) (source s1 s2 : SourceView) (sink k1 k2 : SinkView) (was gone : ℕ) (d d' : Dialogue) (piece : List ℕ) (result : Result Served ServeFault) (so : SoFar lines limit room source s1 sink k1 d) → ReadMore s1 s2 n piece → n ≡ 0
    → HasFinished lines so.input sink k2 d' → d'.waiting ≡ [] → k2.flushed ≡ true → WritesAll (run_of lines limit source s2 sink k2 was gone result) so.input
writes_ended lines limit room n source s1 s2 sink k1 k2 was gone d d' piece result so more none h waits flushed =
    let ended : s2.at_end ≡ true = more.ended ∙ at_zero n none in
    let short : length so.input ≤ limit = omega (arith, so.room_left) in
    let same : answers lines so.input true ≡ answers_within lines limit so.input s2.at_end = sym (answers_ended lines limit so.input short) ∙ ap (answers_within lines limit so.input) (sym ended) in
    record {
      written = taken_all sink k2 _ (takes_same sink k2 _ _ _ _ same waits h.answered);
      flushed = flushed;
      reads_well = more.well ∙ so.reads_well;
      writes_well = h.well;
    }

ends_at : (n : ℕ) (a : List ℕ) (d : Dialogue) (o o' : Option EarlyEnd) → o ≡ o' → IsAfterInput n a d o → IsAfterInput n a d o'
ends_at n a d o o' e s = let Family : Option EarlyEnd → Type 0 = λ x. IsAfterInput n a d x in subst Family e s

refused_ends : (run : Serving) (input : List ℕ) (d : Dialogue) (end : EarlyEnd) → run.source_after.at_end ≡ true → length input ≤ run.most_bytes → WritesAll run input → IsAfterInput run.most_lines input d (Some end) → Ends run input (Err (early_fault end))
refused_ends run input d ends.BadPlan ended short writes s = (writes, ap (is_plan_refused_within run.most_bytes input) ended ∙ refused_ended run.most_bytes input short ∙ s.0)
refused_ends run input d ends.TooMany ended short writes s = absurd s

pub refused_at_end : (lines limit room n : ℕ) (source s1 s2 : SourceView) (sink k1 k2 : SinkView) (was gone : ℕ) (d d' : Dialogue) (piece : List ℕ) (end : EarlyEnd) (so : SoFar lines limit room source s1 sink k1 d) → ReadMore s1 s2 n piece → n ≡ 0
    → HasFinished lines so.input sink k2 d' → d'.waiting ≡ [] → k2.flushed ≡ true → d'.over ≡ Some end → gone ≡ was → AnswersInput (run_of lines limit source s2 sink k2 was gone (Err (early_fault end)))
refused_at_end lines limit room n source s1 s2 sink k1 k2 was gone d d' piece end so more none h waits flushed is kept = record {
  input = so.input;
  read = nothing_more source.remaining s1.remaining s2.remaining so.input piece n so.read more.bytes none;
  ends = refused_ends (run_of lines limit source s2 sink k2 was gone (Err (early_fault end))) so.input d' end (more.ended ∙ at_zero n none) (omega (arith, so.room_left))
      (writes_ended lines limit room n source s1 s2 sink k1 k2 was gone d d' piece _ so more none h waits flushed) (ends_at lines so.input d' _ _ is h.stands);
  counts = early_counts end _ was gone kept;
}

left_after : (n : ℕ) (ls : List (List ℕ)) (lab : Option Laboratory) (left : ℕ) → IsAfterLines n ls lab left → left + length (later_lines ls) ≡ n
left_after n [] None left after = omega (arith, after)
left_after n [] (Some kept) left after = absurd after
left_after n (first ∷ later) None left after = absurd after
left_after n (first ∷ later) (Some kept) left after = after.3

pub ended_well : (lines limit room n : ℕ) (source s1 s2 : SourceView) (sink k1 k2 : SinkView) (was gone : ℕ) (d d' : Dialogue) (piece : List ℕ) (served : Served) (so : SoFar lines limit room source s1 sink k1 d) → ReadMore s1 s2 n piece → n ≡ 0
    → IsAtEnd s2.remaining → HasFinished lines so.input sink k2 d' → d'.waiting ≡ [] → k2.flushed ≡ true → d'.over ≡ None → served.lines ≡ lines - d'.left → gone ≡ was → AnswersInput (run_of lines limit source s2 sink k2 was gone (Ok served))
ended_well lines limit room n source s1 s2 sink k1 k2 was gone d d' piece served so more none nothing h waits flushed is count kept =
    let ended : s2.at_end ≡ true = more.ended ∙ at_zero n none in
    let short : length so.input ≤ limit = omega (arith, so.room_left) in
    let s = ends_at lines so.input d' _ None is h.stands in
    record {
      input = so.input;
      read = nothing_more source.remaining s1.remaining s2.remaining so.input piece n so.read more.bytes none;
      ends = record {
        writes = writes_ended lines limit room n source s1 s2 sink k1 k2 was gone d d' piece _ so more none h waits flushed;
        at_end = ended;
        nothing_left = nothing;
        accepted = ap (is_plan_refused_within limit so.input) ended ∙ refused_ended limit so.input short ∙ s.0;
        within = past_ended lines limit so.input short s.1;
        counted = omega (arith, count, left_after lines (lines_of so.input true) d'.laboratory d'.left s.2, count_ended lines limit so.input short s.1);
      };
      counts = kept;
    }

-- ---- nothing was read

nothing_answered : (lines limit : ℕ) → answers_within lines limit [] false ≡ []
unfolding answers
nothing_answered lines limit = answers_going lines limit [] ∙ ap (λ (x : List ℕ). answers lines x false) (whole limit [] (omega arith))

nothing_refused : (limit : ℕ) → is_plan_refused_within limit [] false ≡ false
unfolding is_plan_refused
nothing_refused limit = refused_going limit [] ∙ ap (λ (x : List ℕ). is_plan_refused x false) (whole limit [] (omega arith))

few_of_none : (lines : ℕ) → has_more_lines lines [] ≡ false
unfolding has_more_lines
few_of_none lines = le-ltb (suc lines) zero (omega arith)

appends_nothing : (contents : Option (List ℕ)) (text : List ℕ) → text ≡ [] → Appends contents contents text
appends_nothing contents text none = let Family : List ℕ → Type 0 = λ x. Appends contents contents x in subst Family (sym none) (Appends-nil contents)

-- a source that was not opened, after this number of failed reads
abbrev pub unopened_source : ℕ → SourceView
unopened_source failed = record { remaining = None; at_end = false; failures = failed }

-- the first read fails
pub first_read_failed : (lines limit : ℕ) (source : SourceView) (sink : SinkView) → AnswersInput (run_of lines limit source (after_failed_read source) sink sink 0 0 (Err faults.Read))
first_read_failed lines limit source sink = record {
  input = [];
  read = Consumes-nil source.remaining;
  ends = record {
    written = appends_nothing sink.contents _ (nothing_answered lines limit);
    accepted = nothing_refused limit;
    within = past_ended lines limit [] (omega arith) (few_of_none lines);
    reads_failed = refl;
    writes_well = refl;
  };
  counts = refl;
}

-- a source that was not opened is like one whose first read fails
pub unopened : (lines limit : ℕ) (sink : SinkView) → AnswersInput (run_of lines limit (unopened_source 0) (unopened_source 1) sink sink 0 0 (Err faults.Read))
unopened lines limit sink = first_read_failed lines limit (unopened_source 0) sink

-- memory ran out before the run began
pub not_begun : (lines limit : ℕ) (source : SourceView) (sink : SinkView) → AnswersInput (run_of lines limit source source sink sink 0 0 (Err faults.OutOfMemory))
not_begun lines limit source sink = record {
  input = [];
  read = Consumes-nil source.remaining;
  ends = record { stops = ((_, takes_none sink _), refl); reads_well = refl };
  counts = refl;
}

-- the crew did not start, which counts as having returned `WorkersGone` if that was the fault
pub not_manned : (lines limit : ℕ) (source : SourceView) (sink : SinkView) (failed : CrewFault) → (gone : ℕ) × AnswersInput (run_of lines limit source source sink sink 0 gone (Err (crew_fault failed)))
not_manned lines limit source sink crew_faults.OutOfMemory = (0, not_begun lines limit source sink)
not_manned lines limit source sink crew_faults.WorkersGone = (
  1,
  record {
    input = [];
    read = Consumes-nil source.remaining;
    ends = record { stops = ((_, takes_none sink _), refl); reads_well = refl };
    counts = inl refl;
  },
)
