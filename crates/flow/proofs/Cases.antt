-- The worked cases of dwell, computed tick by tick. Assumes nothing.
use mathlib.Core.Path.{refl}
use Rattle.units.specs.Numbers.{pick}
use Rattle.sheet.specs.Entries.{is_in}
use Rattle.phase.specs.Times.{one_more, add_light, add_walker}
use Rattle.phase.specs.Ending.{after_walk, walk_over, clearance_over, green_over, after_green, after_yellow, phase_over, over_or_stays}
use Rattle.stage.specs.Commands.{may_start, allowed_in, allowed_at, allowed, home, next, ended, obeyed}
use Rattle.stage.specs.Listed.{find_in}
use Rattle.stage.specs.Shown.{in_normal, is_normal, normal_before, stays_normal}
use Rattle.stage.specs.Times.{add_one}
use Rattle.flow.specs.Calls.{counting, count_to, count_after, answered, unless_owed, open_dropped, ending_dropped, dropped, becomes, begins, called, overdue}
use Rattle.flow.specs.Settling.{enter, settle_red, settle_yellow, settle_green, settled_as, settle}
use Rattle.flow.specs.Tick.{heard}
use Rattle.flow.specs.Cases.{side_streets, ran, StartsNamed, GoesOnToTwo, EndsByTheRules, NextIsDropped, CountsFromTheNext, OffAsItIsOver}

pub starts_named : StartsNamed
unfolding side_streets ran pick is_in one_more add_light add_walker after_walk walk_over clearance_over green_over after_green after_yellow phase_over over_or_stays may_start allowed_in allowed_at allowed home next ended obeyed find_in in_normal is_normal normal_before stays_normal add_one counting count_to count_after answered unless_owed open_dropped ending_dropped dropped becomes begins called overdue enter settle_red settle_yellow settle_green settled_as settle heard
starts_named = (refl, refl, refl, refl)

pub goes_on_to_two : GoesOnToTwo
unfolding side_streets ran pick is_in one_more add_light add_walker after_walk walk_over clearance_over green_over after_green after_yellow phase_over over_or_stays may_start allowed_in allowed_at allowed home next ended obeyed find_in in_normal is_normal normal_before stays_normal add_one counting count_to count_after answered unless_owed open_dropped ending_dropped dropped becomes begins called overdue enter settle_red settle_yellow settle_green settled_as settle heard
goes_on_to_two = (refl, refl, refl, refl, refl, refl, refl)

pub ends_by_the_rules : EndsByTheRules
unfolding side_streets ran pick is_in one_more add_light add_walker after_walk walk_over clearance_over green_over after_green after_yellow phase_over over_or_stays may_start allowed_in allowed_at allowed home next ended obeyed find_in in_normal is_normal normal_before stays_normal add_one counting count_to count_after answered unless_owed open_dropped ending_dropped dropped becomes begins called overdue enter settle_red settle_yellow settle_green settled_as settle heard
ends_by_the_rules = (refl, refl, refl, refl)

pub next_is_dropped : NextIsDropped
unfolding side_streets ran pick is_in one_more add_light add_walker after_walk walk_over clearance_over green_over after_green after_yellow phase_over over_or_stays may_start allowed_in allowed_at allowed home next ended obeyed find_in in_normal is_normal normal_before stays_normal add_one counting count_to count_after answered unless_owed open_dropped ending_dropped dropped becomes begins called overdue enter settle_red settle_yellow settle_green settled_as settle heard
next_is_dropped = (refl, refl)

pub counts_from_the_next : CountsFromTheNext
unfolding side_streets ran pick is_in one_more add_light add_walker after_walk walk_over clearance_over green_over after_green after_yellow phase_over over_or_stays may_start allowed_in allowed_at allowed home next ended obeyed find_in in_normal is_normal normal_before stays_normal add_one counting count_to count_after answered unless_owed open_dropped ending_dropped dropped becomes begins called overdue enter settle_red settle_yellow settle_green settled_as settle heard
counts_from_the_next = (refl, refl, refl)

pub off_as_it_is_over : OffAsItIsOver
unfolding side_streets ran pick is_in one_more add_light add_walker after_walk walk_over clearance_over green_over after_green after_yellow phase_over over_or_stays may_start allowed_in allowed_at allowed home next ended obeyed find_in in_normal is_normal normal_before stays_normal add_one counting count_to count_after answered unless_owed open_dropped ending_dropped dropped becomes begins called overdue enter settle_red settle_yellow settle_green settled_as settle heard
off_as_it_is_over = refl
