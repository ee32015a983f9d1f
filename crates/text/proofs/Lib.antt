mod ByteLaws
mod NumberLaws
mod RangeLaws
