mod Group
