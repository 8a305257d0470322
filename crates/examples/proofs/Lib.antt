mod SameDay
