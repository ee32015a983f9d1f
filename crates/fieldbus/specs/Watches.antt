-- The watch over the frames.
use Rattle.std.specs.Prelude.{ℕ, ◌+◌, Bool, cond, nat_le, nat_lt}
use Rattle.drives.specs.Numbers.{brought_into}
use Rattle.fieldbus.specs.declared.watch.Watch.{Watch}

-- The delay in cycles is brought into its range, and no cycle has passed.
abbrev pub watch_set : ℕ → Watch
watch_set delay = record { delay = brought_into 1 60000 delay; silence = 0 }

abbrev pub heard_from : Watch → Watch
heard_from watch = record { delay = watch.delay; silence = 0 }

-- One more cycle without a frame. The silence counts up to the delay.
abbrev pub silent : Watch → Watch
silent watch =
    record {
      delay = watch.delay;
      silence = cond (nat_lt watch.silence watch.delay) (watch.silence + 1) watch.silence;
    }

-- The watch runs out at the delay.
abbrev pub ran_out : Watch → Bool
ran_out watch = nat_le watch.delay watch.silence
