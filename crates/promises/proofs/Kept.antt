-- Every promise is kept: one term of the type `Promises`. What is below may be proved in any way; what it proves stands in specs/.
use mathlib.Core.Path.{◌≡◌, refl}
use Prim.Native.Nat.{ℕ, ◌-◌, ◌^◌, ◌≤◌}
use Rattle.invariants.proofs.Stays.{opens-sound, stays-sound}
use Rattle.invariants.proofs.Lists.{ends_stay_sound, never_refused_as_3, clocks_never_fall, never_heard_later}
use Rattle.invariants.proofs.Clocks.{clock_never_falls, heard_by_now}
use Rattle.invariants.proofs.Outputs.{goes_out_right}
use Rattle.invariants.proofs.Lates.{fetch-answered, late-answered, late_is_right}
use Rattle.guarantees.proofs.Choice.{choice_is_earliest, no_choice_none_due}
use Rattle.guarantees.proofs.Fires.{out_is_earliest, nothing_means_none, none_means_nothing, due_means_out, one_less_due, firing-ends}
use Rattle.guarantees.proofs.BackOff.{opened_c3_below_c1, opened_firing_ends, rounds-rise, set_or_kept, quiet-ignores, once_per_quiet, always_due, rounds-through, always_set, quiet_before_due, one_round_per_quiet}
use Rattle.guarantees.proofs.Slots.{host_and_params_stay, slots_may_become, waits_until_held, held_until_cleared, spans_may_become, retired_are_gone, held-through, waits_or_held_through}
use Rattle.guarantees.proofs.Turn.{turn_comes, opened_turn_comes}
use Rattle.recovery.proofs.Settles.{settles}
use Rattle.recovery.proofs.Exchange.{answered}
use Rattle.recovery.proofs.Steady.{steady}
use Rattle.recovery.proofs.Losses.{recovers}
use Rattle.recovery.proofs.Outage.{after-outage}
use Rattle.recovery.proofs.Several.{answered-among, recovers-among, after_outage_among_lem}
use Rattle.recovery.proofs.Detects.{detects}
use Rattle.recovery.proofs.Detected.{reports_it, detected}
use Rattle.recovery.proofs.Express.{express-recovers}
use Rattle.recovery.proofs.Network.{network_is_whole}
use Rattle.recovery.proofs.Views.{each_sees_its_own, side_is_end, claims_carry_over}
use Rattle.recovery.proofs.Timely.{two_ends_recover, two_ends_recover_among, two_ends_recover_steadily, timely-recovery, steady-recovery}
use Rattle.recovery.proofs.Timely.{timely_over_network, steady_over_network}
use Rattle.recovery_cases.proofs.Rows.{rows-shown}
use Rattle.guarantees.proofs.History.{count_over_history, non_members_count_none}
use Rattle.guarantees.proofs.HistoryRows.{ten_to_eighty_lem, left-again, whole-season}
use Rattle.guarantees.proofs.Rises.{rises_by_64, places_as_before, rise_as_before, data_rises_alike, nothing_retired_up_to_63, none_missed_up_to_63}
use Rattle.guarantees.proofs.Arrivals.{probe_is_report, probes_answered, refused_changes_nothing, arrival_keeps_status_and_next, held_stays, untouched_stays, other_sources_stay, slots_as_heard, held_is_carried, replies_as_heard, reply_quiet_stays, spans_as_heard, distances_stay}
use Rattle.guarantees.proofs.Clashes.{other_bytes_clash, clash-means}
use Rattle.guarantees.proofs.Reasons.{request_quiet_waits}
use Rattle.guarantees.proofs.Express.{express_set_by_gap, express_stays_or_goes, express_goes_out, express-answered, express_else_request}
use Rattle.guarantees.proofs.Pairs.{pairs_may_become, pair_over_history}
use Rattle.guarantees.proofs.FetchAnswers.{exhausted_exactly, exhausted-means, ignored_fetch_stays, fetch_may_be_made, fetch_otherwise_ignored}
use Rattle.guarantees.proofs.FetchAnswers.{fetch_moves_nothing, fetched_moves_nothing}
use Rattle.guarantees.proofs.FetchBook.{fetch_outside_book, fetched_outside_book, brings-nothing}
use Rattle.guarantees.proofs.FetchHistory.{attempts_over_history, late_at_most_once, tried-once, fetchable_never_got, late_never_got}
use Rattle.guarantees.proofs.FetchReports.{reported_over_history}
use Rattle.guarantees.proofs.Announce.{announces-own, out_is_announcement, only_announce_announces, neither_falls, announced_is_done}
use Rattle.guarantees.proofs.FetchBook.{announce_outside_book, announced_outside_book, announced_brings_nothing}
use Rattle.display_history.proofs.History.{each_number_once, stays_so, never-lower, none_forgotten, lost_as_passed, losses_stand, missing-is, received_never_reported}
use Rattle.display_history.proofs.StaysSound.{opens-sound as display_opens_sound, stays-sound as display_stays_sound, never_unsound}
use Rattle.display_history.proofs.Asks.{step_asks_lowest}
use Rattle.display_history.proofs.Answers.{answers-heard, edges-heard, sets-clock, refused-stays, out_is_request}
use Rattle.display_history.proofs.Foyer.{ends-allowed, foyer-service}
use Rattle.record.proofs.LinesBack.{lines_back}
use Rattle.judgement.proofs.Pieces.{judged_in_pieces, too_many_stays}
use Rattle.fairness.proofs.Judged.{judged_right, judged_only_so}
use Rattle.fairness.proofs.Honest.{runs_permitted, lists_permitted}
use Rattle.fairness.proofs.Written.{never_accused, rejected_is_none}
use Rattle.fairness.proofs.Tried.{tried_permitted, tried_never_accused}
use Rattle.roundtrip.proofs.RoundTrip.{reads_back, very_bytes, old_bytes_lem, old_numbers, still_read, means_the_same, rewritten, at_most_127, probe_is_empty, only_probe_is_empty}
use Rattle.numbers.proofs.NumberLaws.{value-digits, digits_value}
use Rattle.numbers.proofs.SignedLaws.{signed_back, two_bytes_back}
use Rattle.message.proofs.CueLaws.{cue_fields_back}
use Rattle.end.specs.Round.{factor}
use Rattle.end.proofs.Bounds.{share-none, share-whole, share-most, share-rises, least_milliseconds}
use Rattle.end.proofs.Clashes.{same_cue_is_same_bytes}
use Rattle.end.proofs.Service.Ends.{service}
use Rattle.end.proofs.Service.Unclashed.{never-clashes}
use Rattle.end.proofs.Service.Lates.{late_has_the_sources_bytes}
use Rattle.end.proofs.Reasons.{ignored_for_the_first_reason}
use Rattle.end.proofs.ReasonLaws.{reason_is_first, none-holds, number_exactly, reason_exactly, none_exactly}
use Rattle.cases.proofs.Shown.{service-shown, late-shown, never_returns_clash}
use Rattle.cases.proofs.Cases.{cases-hold, answers-hold, moves-hold, wire-holds, timed-hold, half_trips_hold, factors-hold, reasons-hold, stage-holds, quiet-holds, clashes-hold, probe-holds, season-holds, express-holds, fetch-holds, announced-hold, announces-hold}
use Rattle.cases.proofs.Turn.{four-rounds, each_is_needed}
use Rattle.lent_runs.proofs.Due.{due_is_least, fire_by_due, lent_fire_by_due}
use Rattle.lent_runs.proofs.Reopening.{reopens_sound}
use Rattle.lent_runs.proofs.Reopening.{left_is_reopened, opened_reopens, non_members_keep_nothing, crash_is_for_good, crashed_is_not_reopened, sound_idle_may_differ}
use Rattle.lent_runs.proofs.Numbers.{outcome_reads_back}
use Rattle.lent_runs.proofs.Plain.{plain-numbers}
use Rattle.lent_runs.proofs.Lists.{no_state_is_refused, cues_fit, house-opens, lent_is_played, lent_is_seen, allowed_is_lent, lent-service, lent_lates_as_filed}
use Rattle.lent_runs.proofs.Restarts.{restarts_are_leaving, restart_service, restart_lates_as_filed, may_always_restart, reopen_answers_0}
use Rattle.lent_end.proofs.StateLaws.{form_holds, state_forth}
use Rattle.lent_display.proofs.DisplayLaws as displayLaws
use Rattle.lent_runs.proofs.Displays.{display_is_played, display_reads_back, no_display_is_refused}
use Rattle.lent_lens.proofs.Kept.{lens_holds}
use Rattle.promises.specs.Promises.{Promises}

-- by its definition
factor_power : (k : ℕ) → 1 ≤ k → k ≤ 16 → factor k ≡ 2 ^ (k - 1)
unfolding factor
factor_power k a b = refl

pub promises : Promises
promises = record {
  wire = record {
    value-digits = value-digits;
    digits_value = digits_value;
    signed_back = signed_back;
    two_bytes_back = two_bytes_back;
    cue_fields_back = cue_fields_back;
    reads_back = reads_back;
    very_bytes = very_bytes;
    old_bytes_lem = old_bytes_lem;
    old_numbers = old_numbers;
    still_read = still_read;
    means_the_same = means_the_same;
    rewritten = rewritten;
    at_most_127 = at_most_127;
    probe_is_empty = probe_is_empty;
    only_probe_is_empty = only_probe_is_empty;
  };
  service = record {
    runs = service;
    shown = service-shown;
    never-clashes = never-clashes;
    never_returns_clash = never_returns_clash;
    late_has_the_sources_bytes = late_has_the_sources_bytes;
    late-shown = late-shown;
  };
  states = record {
    opens-sound = opens-sound;
    stays-sound = stays-sound;
    ends_stay_sound = ends_stay_sound;
    never_refused_as_3 = never_refused_as_3;
    clock_never_falls = clock_never_falls;
    clocks_never_fall = clocks_never_fall;
    heard_by_now = heard_by_now;
    never_heard_later = never_heard_later;
    goes_out_right = goes_out_right;
  };
  fires = record {
    choice_is_earliest = choice_is_earliest;
    no_choice_none_due = no_choice_none_due;
    out_is_earliest = out_is_earliest;
    nothing_means_none = nothing_means_none;
    none_means_nothing = none_means_nothing;
    due_means_out = due_means_out;
    opened_c3_below_c1 = opened_c3_below_c1;
    host_and_params_stay = host_and_params_stay;
    one_less_due = one_less_due;
    firing-ends = firing-ends;
    opened_firing_ends = opened_firing_ends;
  };
  arrivals = record {
    probe_is_report = probe_is_report;
    probes_answered = probes_answered;
    refused_changes_nothing = refused_changes_nothing;
    arrival_keeps_status_and_next = arrival_keeps_status_and_next;
    held_stays = held_stays;
    untouched_stays = untouched_stays;
    other_sources_stay = other_sources_stay;
    slots_as_heard = slots_as_heard;
    held_is_carried = held_is_carried;
    replies_as_heard = replies_as_heard;
    reply_quiet_stays = reply_quiet_stays;
    spans_as_heard = spans_as_heard;
    distances_stay = distances_stay;
    same_cue_is_same_bytes = same_cue_is_same_bytes;
    other_bytes_clash = other_bytes_clash;
    clash-means = clash-means;
  };
  back_off = record {
    share-none = share-none;
    share-whole = share-whole;
    share-most = share-most;
    share-rises = share-rises;
    factor_power = factor_power;
    least_milliseconds = least_milliseconds;
    half_trip_lem = λ e. refl;
    slots_may_become = slots_may_become;
    waits_until_held = waits_until_held;
    held_until_cleared = held_until_cleared;
    rounds-rise = rounds-rise;
    set_or_kept = set_or_kept;
    quiet-ignores = quiet-ignores;
    once_per_quiet = once_per_quiet;
    always_due = always_due;
    rounds-through = rounds-through;
    always_set = always_set;
    quiet_before_due = quiet_before_due;
    one_round_per_quiet = one_round_per_quiet;
  };
  turn = record { turn_comes = turn_comes; opened_turn_comes = opened_turn_comes; four-rounds = four-rounds; each_is_needed = each_is_needed };
  recovery = record {
    settles = settles;
    answered = answered;
    steady = steady;
    recovers = recovers;
    after-outage = after-outage;
    answered-among = answered-among;
    recovers-among = recovers-among;
    after_outage_among_lem = after_outage_among_lem;
    detects = detects;
    reports_it = reports_it;
    detected = detected;
    express-recovers = express-recovers;
    network_is_whole = network_is_whole;
    each_sees_its_own = each_sees_its_own;
    side_is_end = side_is_end;
    claims_carry_over = claims_carry_over;
    two_ends_recover = two_ends_recover;
    two_ends_recover_among = two_ends_recover_among;
    two_ends_recover_steadily = two_ends_recover_steadily;
    timely-recovery = timely-recovery;
    steady-recovery = steady-recovery;
    timely_over_network = timely_over_network;
    steady_over_network = steady_over_network;
    rows = rows-shown;
  };
  season = record {
    count_over_history = count_over_history;
    non_members_count_none = non_members_count_none;
    spans_may_become = spans_may_become;
    retired_are_gone = retired_are_gone;
    held-through = held-through;
    waits_or_held_through = waits_or_held_through;
    rises_by_64 = rises_by_64;
    places_as_before = places_as_before;
    rise_as_before = rise_as_before;
    data_rises_alike = data_rises_alike;
    nothing_retired_up_to_63 = nothing_retired_up_to_63;
    none_missed_up_to_63 = none_missed_up_to_63;
    ten_to_eighty_lem = ten_to_eighty_lem;
    left-again = left-again;
    whole-season = whole-season;
  };
  express = record {
    express_set_by_gap = express_set_by_gap;
    express_stays_or_goes = express_stays_or_goes;
    express_goes_out = express_goes_out;
    express-answered = express-answered;
    express_else_request = express_else_request;
    pairs_may_become = pairs_may_become;
    pair_over_history = pair_over_history;
  };
  fetch = record {
    exhausted_exactly = exhausted_exactly;
    exhausted-means = exhausted-means;
    ignored_fetch_stays = ignored_fetch_stays;
    fetch_may_be_made = fetch_may_be_made;
    fetch_otherwise_ignored = fetch_otherwise_ignored;
    fetch-answered = fetch-answered;
    late-answered = late-answered;
    late_is_right = late_is_right;
    fetch_moves_nothing = fetch_moves_nothing;
    fetched_moves_nothing = fetched_moves_nothing;
    fetch_outside_book = fetch_outside_book;
    fetched_outside_book = fetched_outside_book;
    brings-nothing = brings-nothing;
    attempts_over_history = attempts_over_history;
    late_at_most_once = late_at_most_once;
    tried-once = tried-once;
    fetchable_never_got = fetchable_never_got;
    late_never_got = late_never_got;
    reported_over_history = reported_over_history;
  };
  announce = record {
    announces-own = announces-own;
    out_is_announcement = out_is_announcement;
    only_announce_announces = only_announce_announces;
    neither_falls = neither_falls;
    announced_is_done = announced_is_done;
    announce_outside_book = announce_outside_book;
    announced_outside_book = announced_outside_book;
    announced_brings_nothing = announced_brings_nothing;
  };
  displays = record {
    each_number_once = each_number_once;
    stays_so = stays_so;
    never-lower = never-lower;
    none_forgotten = none_forgotten;
    lost_as_passed = lost_as_passed;
    losses_stand = losses_stand;
    missing-is = missing-is;
    received_never_reported = received_never_reported;
    answers-heard = answers-heard;
    edges-heard = edges-heard;
    sets-clock = sets-clock;
    refused-stays = refused-stays;
    step_asks_lowest = step_asks_lowest;
    out_is_request = out_is_request;
    display_opens_sound = display_opens_sound;
    display_stays_sound = display_stays_sound;
    never_unsound = never_unsound;
    ends-allowed = ends-allowed;
    foyer-service = foyer-service;
  };
  judge = record {
    judged_right = judged_right;
    judged_only_so = judged_only_so;
    lines_back = lines_back;
    judged_in_pieces = judged_in_pieces;
    too_many_stays = too_many_stays;
    runs_permitted = runs_permitted;
    lists_permitted = lists_permitted;
    never_accused = never_accused;
    rejected_is_none = rejected_is_none;
    tried_permitted = tried_permitted;
    tried_never_accused = tried_never_accused;
  };
  first_reason_lem = ignored_for_the_first_reason;
  reasons = record { reason_is_first = reason_is_first; none-holds = none-holds; request_quiet_waits = request_quiet_waits; number_exactly = number_exactly; reason_exactly = reason_exactly; none_exactly = none_exactly };
  lent = record {
    state_back = form_holds;
    state_forth = state_forth;
    none_due_before = λ e. (due_is_least e).least;
    due_is_of_one = λ e. (due_is_least e).one;
    nothing_before_due = λ e clock room draws f. (fire_by_due e clock room draws f).before;
    out_from_due = λ e clock room draws f. (fire_by_due e clock room draws f).after;
    lent_nothing_before_due = λ s clock draws output f. (lent_fire_by_due s clock draws output f).before;
    lent_out_from_due = λ s clock draws output f. (lent_fire_by_due s clock draws output f).after;
    left_is_reopened = left_is_reopened;
    opened-left = λ h p cs. (opened_reopens h p cs).left;
    opened-leaving = λ h p cs. (opened_reopens h p cs).leaving;
    opened-idle = λ h p cs. (opened_reopens h p cs).idle;
    non_members_keep_nothing = non_members_keep_nothing;
    reopens_sound = reopens_sound;
    crash_is_for_good = crash_is_for_good;
    crashed_is_not_reopened = crashed_is_not_reopened;
    sound_idle_may_differ = sound_idle_may_differ;
    outcome_reads_back = outcome_reads_back;
    no_state_is_refused = no_state_is_refused;
    plain-numbers = plain-numbers;
    cues_fit = cues_fit;
    house-opens = house-opens;
    lent-fresh = λ l o. (lent_is_played l o).fresh;
    lent-holds = λ l o. (lent_is_played l o).holds;
    lent_gives = λ l o. (lent_is_played l o).gives;
    lent-allowed = λ l o cs a. (lent_is_seen l o cs a).allowed;
    allowed_is_lent = allowed_is_lent;
    lent_seen = λ l o cs a. (lent_is_seen l o cs a).same;
    lent-service = lent-service;
    lent_lates = lent_lates_as_filed;
    restart_states = λ l o ts d. (restarts_are_leaving l o ts d).states;
    restart_gives = λ l o ts d. (restarts_are_leaving l o ts d).gives;
    restart_service = restart_service;
    restart_lates = restart_lates_as_filed;
    may_always_restart = may_always_restart;
    reopen_answers_0 = reopen_answers_0;
  };
  lent-displays = record {
    display_back = displayLaws.form_holds;
    display_forth = displayLaws.display_forth;
    display_holds = λ own sender s z cs. (display_is_played own sender s z cs).holds;
    display_gives = λ own sender s z cs. (display_is_played own sender s z cs).gives;
    display_output = λ own sender s z cs c out. (display_reads_back own sender s z cs c out).0;
    display_reads_back = λ own sender s z cs c out. (display_reads_back own sender s z cs c out).1;
    no_display_is_refused = no_display_is_refused;
  };
  lent_lens = lens_holds;
  cases = record {
    starred = cases-hold;
    answers = answers-hold;
    moves = moves-hold;
    wire = wire-holds;
    timed = timed-hold;
    half_trips = half_trips_hold;
    factors = factors-hold;
    reasons = reasons-hold;
    stage = stage-holds;
    quiet = quiet-holds;
    clashes = clashes-hold;
    probe = probe-holds;
    season = season-holds;
    express = express-holds;
    fetch = fetch-holds;
    announced = announced-hold;
    announce = announces-hold;
  };
}
