use Rattle.log_file.proofs.file.LogFile.seek.Goals as goal

pub returns-clause-list : goal.returns-clause-list
returns-clause-list c = (
  λ log from rs n h. record { within = h.within; is_on = h.is_on; forced_is = h.forced_is; kept_is = h.kept_is; fresh = h.fresh },
  λ log s b h. record { earlier = h.earlier; current = h.current; later = h.later },
)
