-- What made areas and slots hold.
use Rattle.rh_defs.specs.Desk.{Made, Task, task_pages}
use Rattle.rh_figure.specs.Share as share

-- a made area and a task's slot with their pages
abbrev pub made_holding : Made → share.Holding
made_holding m = (share.AreaOf m.number, m.pages)

abbrev pub slot_holding : Task → share.Holding
slot_holding t = (share.SlotOf t.handle, task_pages t)
